-- "Settings": their ranges, and what they allow.
use Rattle.std.specs.Prelude.{ℕ, [], ◌∷◌, Bool, not, ◌&&◌, ◌||◌, leb, eqb}
use Rattle.kvmi.specs.declared.Settings.{Settings}
use Rattle.kvmi.specs.Bits.{is_on, among}

-- "vCPU count 1..16; view count 1..8"; W7: "a revision other than 1 or 2 is answer 7", as a count out of its range is
unfoldable pub in_range : Settings → Bool
in_range s = leb 1 s.vcpus && leb s.vcpus 16 && (leb 1 s.views && leb s.views 8) && (leb 1 s.revision && leb s.revision 2)

-- a flag is set where it is not 0
unfoldable pub is_set : ℕ → Bool
is_set flag = not (eqb flag 0)

-- test 2: "1, 2, 3 and 16 are always allowed"
unfoldable pub allows_command : Settings → ℕ → Bool
allows_command s id = among id (1 ∷ 2 ∷ 3 ∷ 16 ∷ []) || is_on s.commands id

-- "allowed commands and events as bit sets (bit k for number k, unknown bits ignored)"
unfoldable pub allows_event : Settings → ℕ → Bool
allows_event s event = is_on s.events event

-- "message 14 without the singlestep feature (first feature byte 0)"
unfoldable pub can_singlestep : Settings → Bool
can_singlestep s = is_set s.singlestep

-- "enabling event 8 where it can't be caught"
unfoldable pub uncatchable : Settings → ℕ → Bool
uncatchable s event = eqb event 8 && not (is_set s.descriptors)

-- "enabling event 4 while the host has it"
unfoldable pub held_by_host : Settings → ℕ → Bool
held_by_host s event = eqb event 4 && is_set s.breakpoints

-- W2: "access 4 is a processor capability [..] It becomes a settings flag"
unfoldable pub has_execute_only : Settings → Bool
has_execute_only s = is_set s.execute_only

-- W7: "revision 2 applies no entry of a page-access message if any would be skipped"
unfoldable pub all_or_nothing : Settings → Bool
all_or_nothing s = eqb s.revision 2
