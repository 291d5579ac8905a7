-- Elements that begin and end.
use Rattle.std.proofs.Common.{◌≡◌, ℕ, suc, Bool, List, [], ◌∷◌, ◌++◌, map, Some, refl, sym, ◌∙◌, ap, subst}
use Rattle.std.specs.declared.vec.Vec.{Vec}
use Rattle.std.specs.declared.alloc.Global.{Global}
use Rattle.gl_arena.specs.Id.{Id}
use Rattle.gl_meaning.specs.Path.{Path}
use Rattle.gl_meaning.specs.Parts.{Attrs}
use Rattle.gl_meaning.specs.Scope.{Source}
use Rattle.gl_meaning.specs.View.{path_view}
use Rattle.gl_meaning.specs.declared.path.Path.{Path as CodePath}
use Rattle.gl_plain.specs.State.{element_content, State}
use Rattle.gl_plain.specs.Grow.{made_node}
use Rattle.gl_plain.specs.Live.{AttrSpot, ModSpot}
use Rattle.gl_plain.specs.Tags.{AttrsGiven, flush_parts, install_parts, ModsGrown}
use Rattle.gl_machine.specs.Code as c
use Rattle.gl_machine.specs.Mach.{Frame as PlainFrame, Here as PlainHere, Kind as PlainKind, in_element, in_branch, in_let, in_each, in_item, in_other, in_component, in_block, in_getter, in_parts, Making as PlainMaking, idle, Mach, Run, going, go, mach, fresh, added, next_at, all_of}
use Rattle.gl_machine.specs.Step as s
use Rattle.gl_vm.specs.View.{Tables, state_of, Agrees}
use Rattle.gl_vm.specs.Steps.{Does, Numbers}
use Rattle.gl_vm.specs.declared.vm.Vm.{Vm}
use Rattle.gl_code.specs.View.{refs_made}
use Rattle.gl_code.specs.CodeView.{seen_attr_spot, seen_code, seen_codes}
use Rattle.gl_append.specs.MachineView.{seen_here, seen_kind, seen_making, mach_by, mach_of}
use Rattle.gl_parts.specs.Parts.{seen_parts, Leads}
use Rattle.gl_append.specs.Steps.{Moves, Changes, GoesOn, Takes, Begins, Ends, PopsFrame}
use Rattle.gl_append.specs.TagSteps.{element_begun, element_entered}
use Rattle.gl_code.specs.declared.code.AttrSpot.{AttrSpot as CodeAttr}
use Rattle.gl_code.specs.declared.code.Code.{Code}
use Rattle.gl_code.specs.declared.code.Codes.{Codes}
use Rattle.gl_parts.specs.declared.waiting.Waiting.{Waiting}
use Rattle.gl_append.specs.declared.machine.Frame.{Frame}
use Rattle.gl_append.specs.declared.machine.Kind.TheVariants as kind
use Rattle.gl_append.specs.declared.machine.Making.{Making}
use Rattle.gl_append.specs.declared.machine.Machine.{Machine}
use Rattle.gl_append.proofs.Leading.{leads_takes}
use Rattle.gl_append.proofs.LetEnds.{with_frames, top_popped}

-- the registers of an element that begins
pub entered_with : (old adv new : Machine) (none kept : List Id) (node : Id) (attrs : Vec CodeAttr Global) (parts : Vec Waiting Global) (path : CodePath) → adv ≡ record old { pc = suc old.pc } → none ≡ [] → kept ≡ adv.made
    → Begins (record adv { made = none }) new path (kind.Element node kept attrs parts) → Changes (λ n. element_entered node.1 (map seen_attr_spot attrs.items) (seen_parts n parts.items) (path_view path)) old new
entered_with old adv new none kept node attrs parts path e0 e1 =
    subst (λ (a : Machine). kept ≡ a.made → Begins (record a { made = none }) new path (kind.Element node kept attrs parts) → Changes (λ n. element_entered node.1 (map seen_attr_spot attrs.items) (seen_parts n parts.items) (path_view path)) old new) (sym e0)
    (λ e2 b n st.
    let m = mach_by n st old in
    let g : List Id → List Id → Mach = λ x y. mach m.state m.stack (refs_made x) (suc m.pc) (record m.rest { here = fresh (path_view path); frames = m.rest.frames ++ record { here = m.rest.here; kind = in_element node.1 (refs_made y) (map seen_attr_spot attrs.items) (seen_parts n parts.items) } ∷ [] }) in
    sym (ap (λ x. g x kept) e1 ∙ ap (λ y. g [] y) e2) ∙ sym (b n st))

-- the node is made, and then the registers change
pub element_made : (attrs : Attrs) (spots : List AttrSpot) (parts : List Waiting) (vm vm' : Vm) (old new : Machine) (making : Making) (id : Id) (path : CodePath)
    → Does (λ n. made_node (element_content old.making.tag attrs)) vm vm' → Numbers vm.tree.nodes vm'.tree.nodes id
    → ((n : Tables) → path_view path ≡ next_at (seen_here n old.here)) → ((n : Tables) → seen_making n making ≡ idle) → parts ≡ old.making.parts.items
    → Changes (λ n. element_entered id.1 spots (seen_parts n parts) (path_view path)) (record old { making = making }) new
    → Takes (λ n. element_begun attrs spots) vm old vm' new
element_made attrs spots parts vm vm' old new making id path d i p k e l n t a =
    let m = mach_by n (state_of n vm t) old in
    let st = made_node (element_content old.making.tag attrs) (state_of n vm t) in
    let g : PlainMaking → Path → ℕ → List Waiting → Run
    = λ x q r ws. go st m.stack [] (suc m.pc) (record m.rest { making = x; here = fresh q; frames = m.rest.frames ++ record { here = m.rest.here; kind = in_element r m.made spots (seen_parts n ws) } ∷ [] }) in
    record {
      state = st;
      follows = d n t a;
      goes = ap (λ x. g x (next_at m.rest.here) (vm.tree.nodes.made) old.making.parts.items) (sym (k n))
          ∙ (ap (λ q. g (seen_making n making) q (vm.tree.nodes.made) old.making.parts.items) (sym (p n))
          ∙ (ap (λ r. g (seen_making n making) (path_view path) r old.making.parts.items) (sym i.stamp)
          ∙ (ap (λ ws. g (seen_making n making) (path_view path) id.1 ws) (sym e) ∙ ap going (l n st))));
    }

pub flushed : (parts : List Waiting) (attrs : Attrs) (spots : List AttrSpot) (a b c : Vm) (old new : Machine) → parts ≡ old.making.parts.items
    → Leads (λ n x y. flush_parts (seen_parts n parts) x ≡ record { attrs = attrs; spots = spots; state = y }) a b → Takes (λ n. element_begun attrs spots) b old c new → Takes (λ n. s.do_flush) a old c new
flushed parts attrs spots a b c old new e p =
    leads_takes (λ n x y. flush_parts (seen_parts n parts) x ≡ record { attrs = attrs; spots = spots; state = y }) (λ n. s.do_flush) (λ n. element_begun attrs spots) a b c old new p
    (λ n x y i. ap (λ (r : AttrsGiven). element_begun r.attrs r.spots (mach_by n r.state old)) (ap (λ ps. flush_parts (seen_parts n ps) x) (sym e) ∙ i))

-- What closes a frame that was popped, where something that is kept changes.
pub closed_with : (f : Mach → List PlainFrame → PlainHere → PlainKind → Run) (vm vm' : Vm) (old mid new : Machine) (x : Frame)
    → ((m : Mach) (xs fs : List PlainFrame) (h : PlainHere) (k : PlainKind) → f (with_frames xs m) fs h k ≡ f m fs h k) → PopsFrame old mid (Some x)
    → ((n : Tables) (t : Source → Bool) → Agrees t vm → GoesOn n (f (mach_of n t vm mid) (mach_of n t vm mid).rest.frames (seen_here n x.here) (seen_kind n x.kind)) vm' new) → Takes (λ n m. s.with_top m f) vm old vm' new
closed_with f vm vm' old mid new x free p e n t a = subst (λ r. GoesOn n r vm' new) (sym (top_popped f old mid x free p n (state_of n vm t))) (e n t a)

pub element_free : (m : Mach) (xs fs : List PlainFrame) (h : PlainHere) (k : PlainKind) → s.do_close (with_frames xs m) fs h k ≡ s.do_close m fs h k
element_free m xs fs h (in_element a b d e) = refl
element_free m xs fs h (in_branch a b d) = refl
element_free m xs fs h (in_let a b d) = refl
element_free m xs fs h (in_each a b d e g) = refl
element_free m xs fs h (in_item a b d e g i) = refl
element_free m xs fs h (in_other a b) = refl
element_free m xs fs h (in_component a b d e g i) = refl
element_free m xs fs h (in_block a b d e) = refl
element_free m xs fs h (in_getter a) = refl
element_free m xs fs h (in_parts a) = refl

pub element_ended : (vm vm' : Vm) (old mid new : Machine) (frame : Frame) (node : Id) (made : List Id) (attrs : Vec CodeAttr Global) (parts : Vec Waiting Global) (list : List Waiting) (mods : List ModSpot) (body : Codes) (code : Code)
    → old.calls.items ≡ [] → frame.kind ≡ kind.Element node made attrs parts → list ≡ parts.items → Leads (λ n x y. install_parts node.1 0 (seen_parts n list) x ≡ record { spots = mods; state = y }) vm vm'
    → ((n : Tables) → seen_code n code ≡ c.element_code node.1 (refs_made made) (map seen_attr_spot attrs.items) mods (seen_codes n body)) → Ends old mid frame.here body → Moves (λ n m. s.show (seen_code n code, m.state) m) mid new
    → (n : Tables) (t : Source → Bool) → Agrees t vm → GoesOn n (s.do_close (mach_of n t vm old) (mach_of n t vm old).rest.frames (seen_here n frame.here) (seen_kind n frame.kind)) vm' new
element_ended vm vm' old mid new frame node made attrs parts list mods body code none which e p is ends shown n t a =
    let x = p n t a in
    let m = mach_by n x.state old in
    let g : c.Code → State → Run = λ k st. go st m.stack [] (suc m.pc) (record m.rest { here = added k (seen_here n frame.here) }) in
    record {
      state = x.state;
      follows = x.follows;
      goes = ap (λ q. s.do_close (mach_of n t vm old) m.rest.frames (seen_here n frame.here) (seen_kind n q)) which
          ∙ (ap (λ (r : ModsGrown). g (c.element_code node.1 (refs_made made) (map seen_attr_spot attrs.items) r.spots (all_of (seen_here n old.here).codes)) r.state) (ap (λ ps. install_parts node.1 0 (seen_parts n ps) (state_of n vm t)) (sym e) ∙ x.is)
          ∙ (ap (λ b. g (c.element_code node.1 (refs_made made) (map seen_attr_spot attrs.items) mods b) x.state) (sym (ends.0 n))
          ∙ (ap (λ k. g k x.state) (sym (is n))
          ∙ (ap (λ y. s.show (seen_code n code, x.state) y) (sym (ends.1 none n x.state)) ∙ shown n x.state))));
    }
