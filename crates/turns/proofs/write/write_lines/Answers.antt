use Rattle.std.proofs.Common.{rules, ℕ, List, ◌+◌, ap, sym, ◌∙◌, refl, take, drop, subst}
use Rattle.std.specs.Prelude.{option_map}
use Rattle.command_set.specs.Command.{IsInRange}
use Rattle.command_set.specs.Entries.{LoggedData, logged_data, journal_data}
use Rattle.outside.specs.Files.{Lacks, AppendedSome, appended}
use Rattle.outside.proofs.Shelves.{then_appended, has_appended, handed_on}
use Rattle.take_files.specs.Files.{order_line}
use Rattle.turns.specs.Written.{order_lines}
use Rattle.turns.proofs.Counting.{item_has}
use Rattle.turns.proofs.Ordering.{lines_push, lines_split}
use Rattle.turns.proofs.Appending.{none_appended, piece_stopped}
use Rattle.turns.proofs.Turning.{on_err}
use Rattle.turns.proofs.write.write_lines.Goals as goal

pub loop-logged-init : goal.loop-logged-init
loop-logged-init g c = record {
  files = none_appended (g.S.Shelf.files c.args.shelf.now) c.args.order.now c.requires.told;
  writing = refl;
  reading =
      refl;
  failed = refl;
  reads = refl;
}

pub order_line-requires : goal.order_line-requires
order_line-requires g c =
    item_has (λ (l : LoggedData). IsInRange l.entry.command) c.args.entries.now (journal_data c.args.entries.now) c.loop-logged.logged-index
    c.logged-item.result refl c.requires.range c.loop-logged-test.true c.logged-item.is

pub returns-in-Err-clause-some : goal.returns-in-Err-clause-some
returns-in-Err-clause-some g c =
    let i = c.loop-logged.logged-index in
    piece_stopped (g.S.Shelf.files c.args.shelf.now) (g.S.Shelf.files c.loop-logged.shelf) (g.S.Shelf.files c.append_all.new.shelf) c.args.order.now
    (order_lines (journal_data (take i c.args.entries.now))) (order_line (logged_data c.logged-item.result)) (order_lines (journal_data c.args.entries.now))
    (order_lines (journal_data (drop (i + 1) c.args.entries.now)))
    c.loop-logged.invariant.files
    (subst (λ (bytes : List ℕ). AppendedSome c.args.order.now bytes (g.S.Shelf.files c.loop-logged.shelf) (g.S.Shelf.files c.append_all.new.shelf))
    (c.as_slice.ensures.value ∙ c.order_line.ensures) c.in-Err.ensures.some)
    (lines_split c.args.entries.now i c.logged-item.result c.loop-logged-test.true c.logged-item.is)

pub returns-in-Err-clause-cause : goal.returns-in-Err-clause-cause
returns-in-Err-clause-cause g c =
    let i = c.loop-logged.invariant in
    handed_on _ _ _ _ _ _ _ _ _ _ i.writing i.reading
    (λ lacks. absurd (has_appended _ _ _ (subst (λ o. Lacks o c.args.order.now) i.files lacks)))
    c.in-Err.ensures.cause (search rules)

pub loop-logged-preserved : goal.loop-logged-preserved
loop-logged-preserved g c =
    let n = c.loop-logged.logged-index in
    let i = c.loop-logged.invariant in
    let e = c.in-Ok.ensures in
    let o = g.S.Shelf.files c.args.shelf.now in
    record {
      files = e.all ∙ ap (λ (bytes : List ℕ). option_map (appended c.args.order.now bytes) (g.S.Shelf.files c.loop-logged.shelf)) (c.as_slice.ensures.value
          ∙ c.order_line.ensures)
          ∙ ap (option_map (appended c.args.order.now (order_line (logged_data c.logged-item.result)))) i.files
          ∙ then_appended o c.args.order.now (order_lines (journal_data (take n c.args.entries.now))) (order_line (logged_data c.logged-item.result))
          ∙ ap (λ bytes. option_map (appended c.args.order.now bytes) o) (sym
          (lines_push c.args.entries.now n c.logged-item.result c.loop-logged-test.true c.logged-item.is));
      writing = e.cause.kept ∙ i.writing;
      reading = e.cause.other ∙ i.reading;
      failed = e.failed_kept ∙ i.failed;
      reads = e.reads ∙ i.reads;
    }
