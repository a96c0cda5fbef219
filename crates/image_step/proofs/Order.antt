-- The image's order: by kind, then major, then minor. Assumes nothing.
use Rattle.std.proofs.Common.{◌≡◌, ℕ, suc, ◌<◌, ◌^◌, leb, Bool, Some, refl, ◌∙◌, arith}
use Rattle.std.proofs.lemmas.Bool.Decides.{nat_tests}
use Rattle.std.specs.Ordering.{partial_lt, is_some_and, is_lt, nat_cmp, partial_ordering_then}
use Rattle.kvmi.specs.Record.{order_at}
use Rattle.image_form.specs.declared.Kind.{Kind}
use Rattle.image_form.specs.declared.Kind.TheVariants.{Vm, Vc, Ms, Pa, En}
use Rattle.image_step.specs.declared.Place.{Place}
use Rattle.image_step.specs.declared.Progress.{Progress}
use Rattle.image_step.specs.Step.{rank, place_of, is_after}
use Rattle.image_step.specs.contracts.PlacePartialOrd.TheImpl.{partial_cmp-value}

-- the derived order
abbrev less : ℕ → ℕ → ℕ → ℕ → ℕ → ℕ → Bool
less a b c d e f = is_some_and is_lt (partial_ordering_then (Some (nat_cmp a d)) (partial_ordering_then (Some (nat_cmp b e)) (Some (nat_cmp c f))))

by-kind : (a b : Kind) (c d e f : ℕ) → partial_lt partial_cmp-value.it (place_of a c e) (place_of b d f) ≡ less (rank a) c e (rank b) d f
by-kind Vm Vm c d e f = refl
by-kind Vm Vc c d e f = refl
by-kind Vm Ms c d e f = refl
by-kind Vm Pa c d e f = refl
by-kind Vm En c d e f = refl
by-kind Vc Vm c d e f = refl
by-kind Vc Vc c d e f = refl
by-kind Vc Ms c d e f = refl
by-kind Vc Pa c d e f = refl
by-kind Vc En c d e f = refl
by-kind Ms Vm c d e f = refl
by-kind Ms Vc c d e f = refl
by-kind Ms Ms c d e f = refl
by-kind Ms Pa c d e f = refl
by-kind Ms En c d e f = refl
by-kind Pa Vm c d e f = refl
by-kind Pa Vc c d e f = refl
by-kind Pa Ms c d e f = refl
by-kind Pa Pa c d e f = refl
by-kind Pa En c d e f = refl
by-kind En Vm c d e f = refl
by-kind En Vc c d e f = refl
by-kind En Ms c d e f = refl
by-kind En Pa c d e f = refl
by-kind En En c d e f = refl

in-order : (a b c d e f : ℕ) → b < 2 ^ 16 → c < 2 ^ 64 → e < 2 ^ 16 → f < 2 ^ 64 → less a b c d e f ≡ leb (suc (order_at a b c)) (order_at d e f)
in-order a b c d e f hb hc he hf = grind (arith, nat_tests)

pub after-last : (p : Progress) (q : Place) → p.last.major < 2 ^ 16 → p.last.minor < 2 ^ 64 → q.major < 2 ^ 16 → q.minor < 2 ^ 64
    → partial_lt partial_cmp-value.it p.last q ≡ is_after p q
unfolding is_after
after-last p q a b c d =
    by-kind p.last.kind q.kind p.last.major q.major p.last.minor q.minor ∙ in-order (rank p.last.kind) p.last.major p.last.minor (rank q.kind) q.major q.minor a b c d
