-- After every list of calls a host is told by lookup what stands in the model that the same calls moved. Assumes nothing.
use mathlib.Core.Path.{◌≡◌, refl, sym, ap, ◌∙◌, subst}
use mathlib.Core.List.{List}
use mathlib.Core.Bool.{true≢false, false≢true}
use Rattle.kvmi.specs.declared.Settings.{Settings}
use Rattle.kvmi.specs.Model.{Model, closed_model}
use Rattle.kvmi.specs.Call.{Call, after}
use Rattle.session.specs.State.{State}
use Rattle.lookup.specs.Looks.{Looks}
use Rattle.lookup.proofs.Looks.{looks}
use Rattle.history.specs.History.{BeganOn, anew, from_image, after_of}
use Rattle.history.proofs.Lists.{Stands, after-stands, began-stands}
use Rattle.history.proofs.Closed.{Rests, after-rests}

stands-look : (s : Settings) (st : State) (m : Model) → Stands s st m → Rests s m → Looks st m
stands-look s st m f rests =
    subst (Looks st) f.model
    (looks st f.formed
    (λ shut. f.model ∙ rests (sym (ap (λ (k : Model). k.closed) f.model) ∙ shut) ∙ ap closed_model (sym f.settings)))

-- a session begins open
pub began-rests : (s : Settings) (st : State) (m : Model) → BeganOn s st m → Rests s m
began-rests s st m (anew vcpus pages v p ok) h = absurd (false≢true h)
began-rests s st m (from_image vcpus pages v p l t ok e) h = absurd (false≢true h)

pub lookups : (s : Settings) (st : State) (m : Model) → BeganOn s st m → (cs : List Call) → Looks (after_of st cs) (after s m cs)
lookups s st m began cs =
    stands-look s (after_of st cs) (after s m cs) (after-stands s st m cs (began-stands s st m began)) (after-rests s m cs (began-rests s st m began))
