-- The pitch of an operator: log2 of its frequency in Hz, 2 ^ 24 an octave.
use Rattle.std.specs.Prelude.{ℕ, ◌+◌, ◌-◌, ◌*◌, ◌/◌, ◌%◌, ◌^◌, ◌==◌, if◌then◌else◌, List, ℤ, pos, ◌+ℤ◌, ◌-ℤ◌, ◌*ℤ◌}
use Rattle.dx_tables.specs.Constants.{coarse}
use Rattle.dx_tables.specs.Fine.{fine}
use Rattle.key_scale.specs.Operator.{pitch_mode, coarse_setting, fine_setting, detune_setting}

-- a pitch by ratio: key 0 has 50857777, each key 1/12 octave, and then the ratio and the detune, 7 for none
unfoldable pub ratio_pitch : ℤ → ℕ → ℕ → ℕ → ℤ
ratio_pitch note coarse_step fine_step detune =
    pos 50857777 +ℤ pos 1398101 *ℤ note +ℤ coarse coarse_step +ℤ pos (fine fine_step) +ℤ pos 12606 *ℤ (pos detune -ℤ pos 7)

-- a fixed pitch: 1, 10, 100 or 1000 Hz and a hundred steps up to the next; only a detune above 7 counts
unfoldable pub fixed_pitch : ℕ → ℕ → ℕ → ℕ
fixed_pitch coarse_step fine_step detune = 4458616 * (coarse_step % 4 * 100 + fine_step) / 2 ^ 3 + 13457 * (detune - 7)

-- the pitch of an operator of a voice at a note
abbrev pub pitch_of_operator : List ℕ → ℕ → ℤ → ℤ
pitch_of_operator voice operator note =
    if pitch_mode voice operator == 0
    then ratio_pitch note (coarse_setting voice operator) (fine_setting voice operator) (detune_setting voice operator)
    else pos (fixed_pitch (coarse_setting voice operator) (fine_setting voice operator) (detune_setting voice operator))
