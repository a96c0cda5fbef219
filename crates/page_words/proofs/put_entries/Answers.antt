-- The loop's invariant: the entries that are left, on the words as they are, give the same as all of them at the start. Assumes nothing.
use mathlib.Core.Path.{◌≡◌, sym, ◌∙◌}
use Prim.Native.Nat.{◌-◌}
use native.Mathlib.Omega.{arith}
use Rattle.page_words.specs.PageWords.{key_of, page_table, run_entries}
use Rattle.page_words.proofs.PageLaws.{near_bound, part-clamped, put-bound, run-entry, run_end}
use Rattle.page_words.proofs.put_entries.Goals as goal

pub loop-i-init : goal.loop-i-init
unfolding run_entries
loop-i-init c =
    let a = c.args in
    let e : a.n - 0 ≡ a.n = omega arith in
    (omega arith, omega arith, rw (c.min.ensures, e))

pub loop-i-preserved : goal.loop-i-preserved
unfolding key_of
loop-i-preserved c =
    let l = c.loop-i in
    let p = part-clamped _ _ _ _ c.min-a.ensures c.min-b.ensures in
    let e = c.read_entry-e.ensures in
    let next = run-entry c.args.n l.i _ _ _ _ _ _ _ _ _ _ _ (omega arith) p e.0 e.1 c.near-at.ensures c.put_entry-t.ensures c.next_hint-hint.ensures in
    let bound = put-bound _ _ _ _ (page_table l.words l.t.count l.t.skipped) _ (near_bound _ _ _ _ c.near-at.ensures) (omega arith) c.put_entry-t.ensures in
    (omega arith, omega arith, l.invariant.2 ∙ next)

pub returns : goal.returns
returns c =
    let l = c.loop-i in
    sym (l.invariant.2 ∙ run_end c.args.n l.i _ _ _ _ _ (omega arith))
