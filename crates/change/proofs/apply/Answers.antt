-- Page access by its tests, and the mode by which its reply goes out. Assumes nothing.
use mathlib.Core.Path.{◌≡◌, sym, ap, ◌∙◌}
use native.Mathlib.Omega.{arith}
use Rattle.change.specs.Change.{change, pages_by}
use Rattle.change.specs.Effect.{tool_after, pages_set, PagesChanged}
use Rattle.change.proofs.Laws.{paged, run, mode-number, mode-fits, run-back, run-first, run-whole, run-roomy, run-single}
use Rattle.change.proofs.apply.Goals as goal
use Rattle.change.proofs.apply.Goals.{then-not-has_room_for+then-can_change+then-is_all_or_nothing+else-would_skip, then-not-has_room_for+then-can_change+else-is_all_or_nothing, then-not-has_room_for+else-can_change, else-not-has_room_for, then-now, else-now}

pub returns-then-would_skip : goal.returns-then-would_skip
unfolding change tool_after
returns-then-would_skip c =
    rw (
      c.in-SetPages.is,
      run-back c.args.s.settings c.args.pages.now _ _ _ c.args.d.now (sym c.is_all_or_nothing.ensures ∙ c.if-is_all_or_nothing.true) (sym c.would_skip.ensures ∙ c.if-would_skip.true),
      c.hold_back.ensures,
    )

pub returns-after-not-has_room_for : goal.returns-after-not-has_room_for
unfolding change tool_after pages_set
returns-after-not-has_room_for c =
    let run-stands : pages_by c.args.s.settings c.args.pages.now c.args.s.tool.pages (run c.args.s.settings c.args.pages.now c.args.s.tool.pages c.in-SetPages.view c.in-SetPages.count c.args.d.now) ≡ run c.args.s.settings c.args.pages.now c.args.s.tool.pages c.in-SetPages.view c.in-SetPages.count c.args.d.now = elim c.if-not-has_room_for.branch [
      | then-not-has_room_for+then-can_change+then-is_all_or_nothing+else-would_skip q ↦ run-whole c.args.s.settings c.args.pages.now _ _ _ c.args.d.now (sym q.would_skip.ensures ∙ q.if-would_skip.false)
      | then-not-has_room_for+then-can_change+else-is_all_or_nothing q ↦ run-first c.args.s.settings c.args.pages.now _ _ _ c.args.d.now (sym q.is_all_or_nothing.ensures ∙ q.if-is_all_or_nothing.false)
      | then-not-has_room_for+else-can_change q ↦ run-single c.args.s.settings c.args.pages.now _ _ _ c.args.d.now (omega arith) (sym q.can_change.ensures ∙ q.if-can_change.false)
      | else-not-has_room_for q ↦ run-roomy c.args.s.settings c.args.pages.now _ _ _ c.args.d.now (omega arith) (sym c.has_room_for.ensures ∙ q.if-not-has_room_for.false)
    ] in
    rw (c.in-SetPages.is, run-stands) (ap (λ (x : PagesChanged). paged c.args.s c.args.vcpus.now c.args.guest.now x) c.set_pages.ensures)

pub returns-after-now : goal.returns-after-now
unfolding change tool_after
returns-after-now c = elim c.if-now.branch [
  | then-now w ↦ simp (c.in-SetReplies.is, w.if-now.true, w.result-is, c.quiet-in-SetReplies.ensures, c.from.ensures, c.from-number.ensures, mode-number, mode-fits)
  | else-now w ↦ simp (c.in-SetReplies.is, w.if-now.false, w.result-is, c.quiet-in-SetReplies.ensures, c.from.ensures, c.from-number.ensures, mode-fits)
]
