-- How a run ends whose scripts all have a plan.
use Rattle.std.proofs.Common.{◌≡◌, ◌≢◌, ◌⊎◌, ℕ, zero, suc, ◌+◌, ◌-◌, ◌<◌, ◌≤◌, List, [], ◌∷◌, ◌++◌, length, take, refl, sym, ap, ◌∙◌, subst, inl, inr, ⊎_elim}
use Rattle.std.proofs.Common.{arith, min}
use Rattle.std.specs.Prelude.{◌==◌, Option, Some, None, All, option_map, slice_index_or, if◌then◌else◌}
use Rattle.std.proofs.Math.Seq.{take-length}
use Rattle.std.proofs.lemmas.List.Elements.{All-nil}
use Rattle.outside.specs.Files.{IsFileBegun, Files, SaidSome, appended, said}
use Rattle.outside.specs.Faults.{Rose}
use Rattle.outside.proofs.Shelves.{then_mapped}
use Rattle.fault_lines.specs.Lines.{Says, cannot_write}
use Rattle.command_set.specs.Entries.{LoggedData}
use Rattle.script_plan.specs.Plan.{PlannedData}
use Rattle.take_files.specs.Files.{order, order_header, wav, wav_blocks, wav_header}
use Rattle.take_files.specs.Orders.{Follows, IsOrdered, entry_limit}
use Rattle.turns.specs.declared.target.Target.{Target}
use Rattle.turns.specs.Turns.{plan_of, many_commands}
use Rattle.turns.specs.Timed.{ArePlayed, IsScriptBegun, IsTimed}
use Rattle.turns.specs.Written.{order_lines, both_appended, BothBegun}
use Rattle.play_core.specs.Words.{RequestData}
use Rattle.play_core.specs.Verdict.{blocks_of_run, places_of_run}
use Rattle.play_core.specs.Files.{AreBegun, IsStopped, with_two}
use Rattle.outside.specs.Snapshot.{Snapshot}
use Rattle.play_core.specs.Run.{HavePlans, HasReported, IsStoppedRun, IsDone, IsPlayedRun, SaysOfStop, left_of, order_of, played, report_of, sound_of}
use Rattle.play_core.proofs.Writes.{sound_grows, text_grows, begun_both, begun_whole, stopped_begun}

-- a count that rose stays risen
pub rose_on : (a b c : ℕ) → Rose a b → b ≤ c → Rose a c
rose_on a b c rose le = omega (arith, rose, le)

-- nothing was played yet
pub none_played : (plans : List (List PlannedData)) → ArePlayed [] plans
none_played plans = record {
  scripts = All-nil (λ l. l.entry.script < length plans);
  each = λ k below. record { sent = []; left = plan_of plans k; split = refl; entries_are = refl; due = tt };
}

-- a prefix of some bytes is one of longer ones
prefix_longer : (count : ℕ) (x more : List ℕ) → take count x ≡ take (min count (length x)) (x ++ more)
prefix_longer zero x more = let none : min 0 (length x) ≡ 0 = omega arith in rw none refl
prefix_longer (suc n) [] more = let none : min (suc n) 0 ≡ 0 = omega arith in rw none refl
prefix_longer (suc n) (b ∷ x) more = let one : min (suc n) (suc (length x)) ≡ suc (min n (length x)) = omega arith in
    rw one (ap (λ (l : List ℕ). b ∷ l) (prefix_longer n x more))

begun_longer : (before now : Option (List ℕ)) (x more : List ℕ) → IsFileBegun before now x → IsFileBegun before now (x ++ more)
begun_longer before now x more (inl same) = inl same
begun_longer before now x more (inr (count, is)) = inr (min count (length x), is ∙ ap (λ (l : List ℕ). Some l) (prefix_longer count x more))

are_begun_longer : (before now : Option Files) (out x more name y rest : List ℕ) → AreBegun before now out x name y
    → AreBegun before now out (x ++ more) name (y ++ rest)
are_begun_longer before now out x more name y rest begun = record {
  out_begun = begun_longer _ _ x more begun.out_begun;
  order_begun = begun_longer _ _ y rest begun.order_begun;
  others = begun.others;
}

pub wav_is : (journal : List LoggedData) (blocks : ℕ) → wav journal blocks ≡ wav_header blocks ++ wav_blocks journal blocks
unfolding wav
wav_is journal blocks = refl

pub order_is : (journal : List LoggedData) (blocks scripts : ℕ) → order journal blocks scripts ≡ order_header blocks scripts ++ order_lines journal
unfolding order
order_is journal blocks scripts = refl

take_both : (x y : List ℕ) (n : ℕ) → x ++ take n y ≡ take (length x + n) (x ++ y)
take_both [] y n = let same : n ≡ 0 + n = omega arith in ap (λ (k : ℕ). take k y) same
take_both (b ∷ x) y n = let same : suc (length x + n) ≡ suc (length x) + n = omega arith in ap (λ (l : List ℕ). b ∷ l) (take_both x y n)
    ∙ ap (λ (k : ℕ). take k (b ∷ (x ++ y))) same

both_grow : (out name : List ℕ) → out ≢ name → (o before now : Option Files) (x y z w : List ℕ)
    → before ≡ option_map (with_two out x name y) o → now ≡ option_map (both_appended out z name w) before
    → now ≡ option_map (with_two out (x ++ z) name (y ++ w)) o
both_grow out name ne o before now x y z w was is =
    text_grows out name ne o (option_map (appended out z) before) now (x ++ z) y w
    (sound_grows out name ne o before (option_map (appended out z) before) x y z was refl)
    (is ∙ sym (then_mapped (appended out z) (appended name w) before))

module _ (a : RequestData) (before now : Snapshot) (status : ℕ) (plans : List (List PlannedData)) (differ : a.out ≢ a.order)
    (planned : HavePlans a before.files plans) where
  abbrev blocks : ℕ
  blocks = blocks_of_run a.blocks plans

  abbrev scripts : ℕ
  scripts = length plans

  -- the first bytes of a file were not written
  pub stopped_at_start : (target : Target) → status ≡ 3 → IsOrdered [] blocks scripts
      → IsStopped target before.files now.files a.out (wav_header blocks) a.order (order_header blocks scripts)
      → now.reading ≡ before.reading → Rose before.writing now.writing
      → (Says (cannot_write a.out) before.written now.written before.faults now.faults
      ⊎ Says (cannot_write a.order) before.written now.written before.faults now.faults)
      → IsPlayedRun a before now status
  stopped_at_start target is ordered stopped reading rose line = inl (record {
    plans = plans;
    journal = [];
    status_is = is;
    planned = planned;
    ordered = ordered;
    begun = none_played plans;
    reading = reading;
    files = rw (wav_is [] blocks, order_is [] blocks scripts)
        (are_begun_longer before.files now.files a.out (wav_header blocks) (wav_blocks [] blocks) a.order (order_header blocks scripts) (order_lines [])
        (stopped_begun a.out a.order differ target before.files now.files (wav_header blocks) (order_header blocks scripts) stopped));
    line = inl (rose, line);
  })

  module _ (middle : Option Files) (journal : List LoggedData) (made : middle ≡ option_map
      (with_two a.out (wav_header blocks) a.order (order_header blocks scripts)) before.files) where
    -- a write failed in a turn
    pub stopped_in_turns : status ≡ 3 → IsOrdered journal blocks scripts → ArePlayed journal plans
        → BothBegun a.out (wav_blocks journal blocks) a.order (order_lines journal) middle now.files
        → now.reading ≡ before.reading → Rose before.writing now.writing
        → (Says (cannot_write a.out) before.written now.written before.faults now.faults
        ⊎ Says (cannot_write a.order) before.written now.written before.faults now.faults)
        → IsPlayedRun a before now status
    stopped_in_turns is ordered begun both reading rose line =
        let m = both.0 in
        let n = both.1 in
        inl (record {
          plans = plans;
          journal = journal;
          status_is = is;
          planned = planned;
          ordered = ordered;
          begun = begun;
          reading = reading;
          files = rw (wav_is journal blocks, order_is journal blocks scripts)
              (begun_both a.out a.order differ before.files now.files (wav_header blocks ++ wav_blocks journal blocks) (order_header blocks scripts
              ++ order_lines journal)
              (length (wav_header blocks) + m) (length (order_header blocks scripts) + n)
              (both_grow a.out a.order differ before.files middle now.files (wav_header blocks) (order_header blocks scripts)
              (take m (wav_blocks journal blocks)) (take n (order_lines journal)) made both.2
              ∙ ap (λ (l : List ℕ). option_map (with_two a.out l a.order (order_header blocks scripts ++ take n (order_lines journal))) before.files)
              (take_both (wav_header blocks) (wav_blocks journal blocks) m)
              ∙ ap (λ (l : List ℕ). option_map (with_two a.out (take (length (wav_header blocks) + m) (wav_header blocks ++ wav_blocks journal blocks)) a.order
              l) before.files)
              (take_both (order_header blocks scripts) (order_lines journal) n)));
          line = inl (rose, line);
        })

    -- both files are whole once all turns were played
    both_whole : now.files ≡ option_map (both_appended a.out (wav_blocks journal blocks) a.order (order_lines journal)) middle
        → now.files ≡ option_map (played a plans journal) before.files
    both_whole whole =
        both_grow a.out a.order differ before.files middle now.files (wav_header blocks) (order_header blocks scripts) (wav_blocks journal blocks)
        (order_lines journal) made whole
        ∙ ap (λ (l : List ℕ). option_map (with_two a.out l a.order (order_header blocks scripts ++ order_lines journal)) before.files)
        (sym (wav_is journal blocks))
        ∙ ap (λ (l : List ℕ). option_map (with_two a.out (wav journal blocks) a.order l) before.files) (sym (order_is journal blocks scripts))

    -- all turns were played, and the report was put, or it failed
    pub played_whole : now.files ≡ option_map (both_appended a.out (wav_blocks journal blocks) a.order (order_lines journal)) middle
        → IsOrdered journal blocks scripts → IsTimed journal plans (places_of_run a.places plans) → length journal ≤ many_commands plans
        → now.reading ≡ before.reading → now.writing ≡ before.writing
        → HasReported (report_of a plans journal) (if left_of plans journal == 0 then 0 else 5) before.written now.written before.faults now.faults status
        → IsPlayedRun a before now status
    played_whole whole ordered timed few reading writing (inl done) = inr (record {
      plans = plans;
      journal = journal;
      status_is = done.0;
      planned = planned;
      ordered = ordered;
      timed = timed;
      few = few;
      files = both_whole whole;
      reading = reading;
      writing = writing;
      written = done.1;
      faults = done.2;
    })
    played_whole whole ordered timed few reading writing (inr failed) = inl (record {
      plans = plans;
      journal = journal;
      status_is = failed.0;
      planned = planned;
      ordered = ordered;
      begun = timed.played;
      reading = reading;
      files = begun_whole a.out a.order differ before.files now.files (wav journal blocks) (order journal blocks scripts) (both_whole whole);
      line = inr (writing, failed.1, both_whole whole, failed.2);
    })

-- the order of a run, whose journal is still empty, or ends with an entry of so many
pub none_ordered : (blocks scripts : ℕ) → 1 ≤ blocks → blocks ≤ 1048576 → 1 ≤ scripts → scripts ≤ 256 → IsOrdered [] blocks scripts
none_ordered blocks scripts some few one many = record {
  some_blocks = some;
  few_blocks = few;
  some_scripts = one;
  few_scripts = many;
  few = omega arith;
  each = λ i d below. absurd (omega (arith, below));
}

pub run_ordered : (journal : List LoggedData) (blocks scripts all : ℕ) → (1 ≤ blocks) → blocks ≤ 1048576 → 1 ≤ scripts → scripts ≤ 256 → length journal ≤ all
    → all ≤ 1000000
    → ((i : ℕ) (d : LoggedData) → i < length journal → Follows (take i journal) blocks scripts (slice_index_or journal i d)) → IsOrdered journal blocks scripts
run_ordered journal blocks scripts all some few one many within limit each = record {
  some_blocks = some;
  few_blocks = few;
  some_scripts = one;
  few_scripts = many;
  few = omega arith;
  each = each;
}
