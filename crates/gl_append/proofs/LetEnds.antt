-- A `let` that ends.
use Rattle.std.proofs.Common.{◌≡◌, suc, List, [], drop, length, Some, refl, sym, ◌∙◌, ap}
use Rattle.std.proofs.lemmas.List.{length-map}
use Rattle.gl_arena.specs.Id.{Id}
use Rattle.gl_plain.specs.State.{State}
use Rattle.gl_machine.specs.Code as c
use Rattle.gl_machine.specs.RenewCode.{refs_in}
use Rattle.gl_machine.specs.Mach.{Frame as PlainFrame, Here as PlainHere, Kind as PlainKind, in_element, in_branch, in_let, in_each, in_item, in_other, in_component, in_block, in_getter, in_parts, Mach, Run, going, go, added, all_of}
use Rattle.gl_machine.specs.Step as s
use Rattle.gl_vm.specs.View.{Tables, stamps}
use Rattle.gl_code.specs.View.{refs_made, seen_locals, seen_sight}
use Rattle.gl_code.specs.CodeView.{seen_code, seen_codes}
use Rattle.gl_append.specs.MachineView.{seen_here, seen_kind, mach_by}
use Rattle.gl_append.specs.Steps.{Moves, Ends, PopsFrame}
use Rattle.gl_code.specs.declared.code.Code.{Code}
use Rattle.gl_code.specs.declared.code.Codes.{Codes}
use Rattle.gl_code.specs.declared.sight.Sight.{Sight}
use Rattle.gl_append.specs.declared.machine.Frame.{Frame}
use Rattle.gl_append.specs.declared.machine.Here.{Here}
use Rattle.gl_append.specs.declared.machine.Machine.{Machine}

abbrev pub with_frames : List PlainFrame → Mach → Mach
with_frames fs m = record m { rest = record m.rest { frames = fs } }

-- What closes a frame that was popped doesn't look at the frames.
pub top_popped : (f : Mach → List PlainFrame → PlainHere → PlainKind → Run) (old mid : Machine) (x : Frame)
    → ((m : Mach) (xs fs : List PlainFrame) (h : PlainHere) (k : PlainKind) → f (with_frames xs m) fs h k ≡ f m fs h k) → PopsFrame old mid (Some x)
    → (n : Tables) (st : State) → s.with_top (mach_by n st old) f ≡ f (mach_by n st mid) (mach_by n st mid).rest.frames (seen_here n x.here) (seen_kind n x.kind)
top_popped f old mid x free p n st =
    ap (λ o. s.given o (λ y. f (mach_by n st old) y.0 y.1.here y.1.kind)) (p.2 n st)
    ∙ (sym (free (mach_by n st old) (mach_by n st mid).rest.frames (mach_by n st mid).rest.frames (seen_here n x.here) (seen_kind n x.kind))
    ∙ ap (λ m. f m (mach_by n st mid).rest.frames (seen_here n x.here) (seen_kind n x.kind)) (sym (p.3 n st)))

pub closed : (f : Mach → List PlainFrame → PlainHere → PlainKind → Run) (old mid new : Machine) (x : Frame)
    → ((m : Mach) (xs fs : List PlainFrame) (h : PlainHere) (k : PlainKind) → f (with_frames xs m) fs h k ≡ f m fs h k) → PopsFrame old mid (Some x)
    → ((n : Tables) (st : State) → f (mach_by n st mid) (mach_by n st mid).rest.frames (seen_here n x.here) (seen_kind n x.kind) ≡ going (mach_by n st new)) → Moves (λ n m. s.with_top m f) old new
closed f old mid new x free p e n st = top_popped f old mid x free p n st ∙ e n st

pub let_free : (m : Mach) (xs fs : List PlainFrame) (h : PlainHere) (k : PlainKind) → s.do_end_let (with_frames xs m) fs h k ≡ s.do_end_let m fs h k
let_free m xs fs h (in_element a b d e) = refl
let_free m xs fs h (in_branch a b d) = refl
let_free m xs fs h (in_let a b d) = refl
let_free m xs fs h (in_each a b d e g) = refl
let_free m xs fs h (in_item a b d e g i) = refl
let_free m xs fs h (in_other a b) = refl
let_free m xs fs h (in_component a b d e g i) = refl
let_free m xs fs h (in_block a b d e) = refl
let_free m xs fs h (in_getter a) = refl
let_free m xs fs h (in_parts a) = refl

pub let_ended : (old mid new : Machine) (sight : Sight) (pending made params : List Id) (here : Here) (body : Codes) (code : Code) → old.calls.items ≡ []
    → stamps params ≡ refs_in (drop (length sight.level.locals) (seen_locals old.sight.level.locals)) → ((n : Tables) → seen_code n code ≡ c.let_code (refs_made made) (stamps params) (seen_codes n body))
    → Ends (record old { sight = sight; pending = pending }) mid here body → Moves (λ n m. s.show (seen_code n code, m.state) m) mid new
    → (n : Tables) (st : State) → s.do_end_let (mach_by n st old) (mach_by n st old).rest.frames (seen_here n here) (in_let (seen_sight n sight) (stamps pending) (refs_made made)) ≡ going (mach_by n st new)
let_ended old mid new sight pending made params here body code none ps is ends shown n st =
    let m = mach_by n st old in
    let g : c.Code → Run = λ k. go st m.stack [] (suc m.pc) (record m.rest { sight = seen_sight n sight; pending = stamps pending; here = added k (seen_here n here) }) in
    let rs : refs_in (drop (length (seen_locals sight.level.locals)) (seen_locals old.sight.level.locals)) ≡ stamps params
    = ap (λ k. refs_in (drop k (seen_locals old.sight.level.locals))) (length-map sight.level.locals (λ e. (e.0, e.1.1))) ∙ sym ps in
    ap (λ r. g (c.let_code (refs_made made) r (all_of (seen_here n old.here).codes))) rs
    ∙ (ap (λ b. g (c.let_code (refs_made made) (stamps params) b)) (sym (ends.0 n))
    ∙ (ap g (sym (is n))
    ∙ (ap (λ y. s.show (seen_code n code, st) y) (sym (ends.1 none n st)) ∙ shown n st)))
