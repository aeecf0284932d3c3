-- For private functions and proofs: the table of faults in two halves, as they are looked at one after the other.
use Rattle.std.specs.Prelude.{ℕ, ◌≡◌, List, [], ◌∷◌, MatchResult}
use Rattle.std.specs.declared.option.Option.{Option}
use Rattle.std.specs.declared.option.Option.TheVariants.{None, Some}
use Rattle.std.specs.declared.result.Result.{Result}
use Rattle.sysex_frame.specs.Frame.{Content, content_of}
use Rattle.sysex_frame.specs.FrameFault.{first_of, not_framed, not_yamaha, data_byte, too_short}
use Rattle.sysex_frame.specs.FrameFault.{unknown_substatus, unknown_format, wrong_count, wrong_length, wrong_checksum, high_value}
use Rattle.sysex_frame.specs.declared.frame.Frame.{Frame}
use Rattle.sysex_frame.specs.declared.frame.FrameFault.{FrameFault}

-- the answer is this content where there is no fault, or the fault
abbrev pub Answers : Result Frame FrameFault → Option FrameFault → Content → Type 0
Answers result fault content = MatchResult result (λ frame. (fault ≡ None) × (content_of frame ≡ content)) (λ e. fault ≡ Some e)

-- the first fault of the first four rows, and of the others
abbrev pub early_fault : List ℕ → Option FrameFault
early_fault message = first_of (not_framed ∷ not_yamaha ∷ data_byte ∷ too_short ∷ []) message

abbrev pub later_fault : List ℕ → Option FrameFault
later_fault message = first_of (unknown_substatus ∷ unknown_format ∷ wrong_count ∷ wrong_length ∷ wrong_checksum ∷ high_value ∷ []) message
