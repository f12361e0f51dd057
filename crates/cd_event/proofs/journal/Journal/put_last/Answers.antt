use Rattle.std.proofs.Common.{◌≡◌, ◌-◌, List, ◌∷◌, ◌++◌, [], length, ap, ◌∙◌, arith, length-append}
use Rattle.std.specs.Prelude.{slice_set}
use Rattle.cd_event.specs.declared.entry.Entry.{Entry}
use Rattle.cd_event.proofs.Lasts.{set_last}
use Rattle.cd_event.proofs.journal.Journal.put_last.Goals.{in-Zero-1, in-Merge-1, in-Pin-1}
use Rattle.cd_event.proofs.journal.Journal.put_last.Goals as goal

pub returns-then-count-gt0 : goal.returns-then-count-gt0
returns-then-count-gt0 g c front last e =
    let items : c.self.inside.entries.items ≡ front ++ last ∷ [] = c.self.view_is ∙ e in
    let n : c.len-count.result - 1 ≡ length front = omega (arith, ap length items, length-append front (last ∷ []), c.len-count.ensures) in
    let is : slice_set c.self.inside.entries.items (c.len-count.result - 1) c.args.entry ≡ front ++ c.args.entry ∷ [] =
    ap (λ k. slice_set c.self.inside.entries.items k c.args.entry) n
    ∙ ap (λ (es : List (Entry g.row.H.Denot)). slice_set es (length front) c.args.entry) items
    ∙ set_last front last c.args.entry in
    elim c.match-index_mut-entry.branch [
      | in-Zero-1 w ↦ w.self-is ∙ is
      | in-Merge-1 w ↦ w.self-is ∙ is
      | in-Pin-1 w ↦ w.self-is ∙ is
    ]
