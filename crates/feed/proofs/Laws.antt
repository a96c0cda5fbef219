-- A value that there is where a test holds, and what is taken of it. Assumes nothing.
use mathlib.Core.Path.{◌≡◌}
use mathlib.Core.Bool.{Bool, true, false, cond}
use Rattle.std.specs.Prelude.{Option, Some, None}

pub some-of : {A B : Type 0} (g : A → B) (b : Bool) (x f : A) (y : B) → ◌≡◌ {A = Option A} (Some f) (cond b (Some x) None) → g f ≡ cond b (g x) y
some-of g true x f y e = cc
some-of g false x f y e = absurd (cc)

pub none-of : {A B : Type 0} (g : A → B) (b : Bool) (x : A) (y : B) → ◌≡◌ {A = Option A} None (cond b (Some x) None) → y ≡ cond b (g x) y
none-of g true x y e = absurd (cc)
none-of g false x y e = cc
