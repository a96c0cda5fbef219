-- The formula computed: both ends of both ranges and the numbers beside them. Assumes nothing.
use mathlib.Core.Path.{◌≡◌, refl}
use mathlib.Core.List.{[], ◌∷◌, map}
use Rattle.std.specs.Prelude.{Some, None}
use Rattle.msrs.specs.Place.{msr_place, msr_at}

of_places : map msr_place (0 ∷ 0x1FFF ∷ 0x2000 ∷ 0xBFFFFFFF ∷ 0xC0000000 ∷ 0xC0001FFF ∷ 0xC0002000 ∷ 0xFFFFFFFF ∷ 0x180000000 ∷ [])
    ≡ (Some 0 ∷ Some 8191 ∷ None ∷ None ∷ Some 8192 ∷ Some 16383 ∷ None ∷ None ∷ None ∷ [])
unfolding msr_place
of_places = refl

of-msrs : map msr_at (0 ∷ 8191 ∷ 8192 ∷ 16383 ∷ []) ≡ (0 ∷ 0x1FFF ∷ 0xC0000000 ∷ 0xC0001FFF ∷ [])
unfolding msr_at
of-msrs = refl
