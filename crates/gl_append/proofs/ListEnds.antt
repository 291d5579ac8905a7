-- An `each` that begins and ends.
use Rattle.std.proofs.Common.{◌≡◌, ℕ, suc, Bool, List, [], ◌∷◌, ◌++◌, map, Option, refl, sym, ◌∙◌, ap, ap₂}
use Rattle.std.specs.declared.vec.Vec.{Vec}
use Rattle.std.specs.declared.alloc.Global.{Global}
use Rattle.gl_arena.specs.Id.{Id}
use Rattle.gl_base.specs.Texts.{Text}
use Rattle.gl_meaning.specs.Render.{Entry as PlainEntry, entries, values_listed}
use Rattle.gl_meaning.specs.Scope.{Source}
use Rattle.gl_value.specs.View.{view}
use Rattle.gl_value.specs.declared.value.Value.{Value}
use Rattle.gl_meaning.specs.Path.{otherwise, Path, V}
use Rattle.gl_meaning.specs.View.{path_view}
use Rattle.gl_meaning.specs.declared.path.Path.{Path as CodePath}
use Rattle.gl_plain.specs.Ids.{a_ref, ref}
use Rattle.gl_plain.specs.State.{State, pair_of}
use Rattle.gl_plain.specs.Binding.{Spot as PlainSpot}
use Rattle.gl_machine.specs.Code as c
use Rattle.gl_machine.specs.Mach.{Frame as PlainFrame, Here as PlainHere, Item as PlainItem, Pushed as PlainPushed, Mach, Rest, Run, going, go, fresh, next_at, in_each, in_other, items_all}
use Rattle.gl_machine.specs.Step as s
use Rattle.gl_vm.specs.Labels.{labelled}
use Rattle.gl_vm.specs.View.{Tables, state_of, Agrees}
use Rattle.gl_vm.specs.Steps.{Does, Numbers}
use Rattle.gl_vm.specs.declared.vm.Vm.{Vm}
use Rattle.gl_code.specs.View.{refs_made, seen_sight}
use Rattle.gl_code.specs.CodeView.{seen_listing, seen_spot, stamp_of, seen_code, seen_codes, seen_item_code, all_items}
use Rattle.gl_append.specs.MachineView.{seen_pushed, seen_here, seen_items, call_kind, mach_by}
use Rattle.gl_code.specs.Entries.{seen_left}
use Rattle.gl_append.specs.Steps.{Moves, Changes, Takes, Begins, Ends, EndsFrame}
use Rattle.gl_code.specs.Comments.{Commented}
use Rattle.gl_append.specs.ListSteps.{each_at, list_waiting}
use Rattle.gl_code.specs.declared.code.Listing.{Listing}
use Rattle.gl_code.specs.declared.code.Spot.{Spot}
use Rattle.gl_code.specs.declared.code.Code.{Code}
use Rattle.gl_code.specs.declared.code.Codes.{Codes}
use Rattle.gl_code.specs.declared.code.ItemCode.{ItemCode}
use Rattle.gl_code.specs.declared.entries.Entry.{Entry}
use Rattle.gl_append.specs.declared.machine.Here.{Here}
use Rattle.gl_append.specs.declared.machine.Iteration.{Iteration}
use Rattle.gl_append.specs.declared.machine.Pushed.{Pushed}
use Rattle.gl_append.specs.declared.machine.Kind.TheVariants as kind
use Rattle.gl_append.specs.declared.machine.Call.{Call}
use Rattle.gl_append.specs.declared.machine.Call.TheVariants as call
use Rattle.gl_append.specs.declared.machine.Machine.{Machine}
use Rattle.gl_append.proofs.Commenting.{arm_shown}
use Rattle.gl_append.proofs.LetEnds.{with_frames}
use Rattle.gl_parts.proofs.Leading.{placed_in}
use Rattle.gl_code.proofs.EntryCounts.{none_left, none_seen}

waiting : (z : c.Listing) (x : PlainSpot) (start : ℕ) (es : List PlainEntry) (st : State) (stk : List PlainPushed) (rest : Rest) → (es ≡ [] → ⊥)
    → s.each_into z x start es st stk rest ≡ go st stk [] start (record rest { frames = rest.frames ++ record { here = rest.here; kind = in_each z x start es [] } ∷ [] })
waiting z x start [] st stk rest no_items = absurd (no_items refl)
waiting z x start (e ∷ es) st stk rest no_items = refl

-- the first item comes next
pub list_waits : (old new : Machine) (listing : Listing) (id : Id) (made none : List Id) (start : ℕ) (left : Vec Entry Global) (done : Vec ItemCode Global) → made ≡ old.made → done.items ≡ [] → (left.items ≡ [] → ⊥)
    → Changes (λ n. list_waiting (call_kind n (call.Each (record { listing = listing; spot = record { id = id; made = made }; start = start; left = left; done = done }))) start) (record old { made = none }) new
    → Moves (λ n k. s.each_into (seen_listing n listing) (record { ref = id.1; made = k.made ++ ref id.1 ∷ [] }) start (seen_left left.items) k.state k.stack k.rest) old new
list_waits old new listing id made none start left done e1 e2 some l n st =
    let m = mach_by n st old in
    let z = seen_listing n listing in
    let g : List Id → List ItemCode → Run = λ x y. go st m.stack [] start (record m.rest { frames = m.rest.frames ++ record { here = m.rest.here; kind = in_each z (record { ref = id.1; made = refs_made x ++ ref id.1 ∷ [] }) start (seen_left left.items) (seen_items n y) } ∷ [] }) in
    waiting z (record { ref = id.1; made = m.made ++ ref id.1 ∷ [] }) start (seen_left left.items) st m.stack m.rest (λ e. some (none_left left.items e))
    ∙ (ap (λ x. g x []) (sym e1) ∙ (ap (λ y. g made y) (sym e2) ∙ ap going (l n st)))

-- there is no item: the other body is begun
pub list_other : (old new : Machine) (listing : Listing) (id : Id) (made none : List Id) (start : ℕ) (left : List Entry) → made ≡ old.made → left ≡ []
    → Moves (λ n k. s.each_into (seen_listing n listing) (seen_spot (record { id = id; made = made })) 0 [] k.state k.stack k.rest) (record old { made = none }) new
    → Moves (λ n k. s.each_into (seen_listing n listing) (record { ref = id.1; made = k.made ++ ref id.1 ∷ [] }) start (seen_left left) k.state k.stack k.rest) old new
list_other old new listing id made none start left e1 e2 x n st =
    let m = mach_by n st old in
    let g : List PlainEntry → List Id → Run = λ es y. s.each_into (seen_listing n listing) (record { ref = id.1; made = refs_made y ++ ref id.1 ∷ [] }) start es st m.stack m.rest in
    ap (λ es. g es old.made) (none_seen left e2) ∙ (ap (λ y. g [] y) (sym e1) ∙ x n st)

pub other_entered : (old new : Machine) (listing : Listing) (spot : Spot) (path : CodePath) (none : List Id) → none ≡ [] → ((n : Tables) → path_view path ≡ otherwise ∷ next_at (seen_here n old.here))
    → Begins (record old { made = none; pc = listing.other }) new path (kind.Other listing spot)
    → Moves (λ n k. s.each_into (seen_listing n listing) (seen_spot spot) 0 [] k.state k.stack k.rest) old new
other_entered old new listing spot path none e1 e2 b n st =
    let m = mach_by n st old in
    let g : List Id → Path → Run
    = λ x q. go st m.stack (refs_made x) listing.other (record m.rest { here = fresh q; frames = m.rest.frames ++ record { here = m.rest.here; kind = in_other (seen_listing n listing) (seen_spot spot) } ∷ [] }) in
    ap (λ x. g x (otherwise ∷ next_at (seen_here n old.here))) (sym e1) ∙ (ap (λ q. g none q) (sym (e2 n)) ∙ ap going (sym (b n st)))

pub list_begun : (key : Text) (other : ℕ) (o : ℕ × ℕ) (vm vm' : Vm) (old new : Machine) (top : Pushed) (value : Value) (id : Id) (listing : Listing) (start : ℕ) (left : List Entry)
    → Does (λ n. placed_in (top.id.1 ∷ [])) vm vm' → Numbers vm.refs.rows vm'.refs.rows id → ((n : Tables) (t : Source → Bool) → (pair_of (state_of n vm t).look top.id.1).value ≡ labelled (view value))
    → ((n : Tables) → seen_listing n listing ≡ record { key = key; value = o.0; index = o.1; body = suc (suc old.pc); other = other; sight = seen_sight n old.sight }) → start ≡ suc old.pc
    → seen_left left ≡ entries key 0 [] (values_listed (labelled (view value)))
    → Moves (λ n k. s.each_into (seen_listing n listing) (record { ref = id.1; made = k.made ++ ref id.1 ∷ [] }) start (seen_left left) k.state k.stack k.rest) old new
    → Takes (λ n m. each_at key other o m (m.stack, seen_pushed top)) vm old vm' new
list_begun key other o vm vm' old new top value id listing start left d i v z e w l n t a =
    let st : State = state_of n vm t in
    let st1 : State = placed_in (top.id.1 ∷ []) st in
    let m = mach_by n st1 old in
    let g : V → c.Listing → ℕ → Run = λ y x r. s.each_into x (record { ref = r; made = m.made ++ ref r ∷ [] }) (suc old.pc) (entries key 0 [] (values_listed y)) st1 m.stack m.rest in
    let x : c.Listing = record { key = key; value = o.0; index = o.1; body = suc (suc old.pc); other = other; sight = seen_sight n old.sight } in
    record {
      state = st1;
      follows = d n t a;
      goes = ap (λ y. g y x (st.next a_ref)) (v n t)
          ∙ (ap (λ y. g (labelled (view value)) y (st.next a_ref)) (sym (z n))
          ∙ (ap (λ r. g (labelled (view value)) (seen_listing n listing) r) (sym i.stamp)
          ∙ (ap₂ (λ k es. s.each_into (seen_listing n listing) (record { ref = id.1; made = m.made ++ ref id.1 ∷ [] }) k es st1 m.stack m.rest) (sym e) (sym w) ∙ l n st1)));
    }

pub unlisted_ended : (vm vm' : Vm) (old mid new : Machine) (listing : Listing) (spot : Spot) (k : Option Id) (here : Here) (body : Codes) (code : Code) → old.calls.items ≡ [] → Ends old mid here body
    → ((n : Tables) (t : Source → Bool) → Agrees t vm → Commented n (seen_codes n body, state_of n vm t) vm' k)
    → ((n : Tables) → seen_code n code ≡ c.unlisted_code (seen_listing n listing) (seen_spot spot) (stamp_of k) (seen_codes n body)) → Moves (λ n m. s.show (seen_code n code, m.state) m) mid new
    → EndsFrame (λ n. s.do_end_each) vm old (record { here = here; kind = kind.Other listing spot }) vm' new
unlisted_ended vm vm' old mid new listing spot k here body code = arm_shown (λ n x cs. c.unlisted_code (seen_listing n listing) (seen_spot spot) x cs) vm vm' old mid new k here body code

-- the items in order, as what was rendered of the list
all_done : (n : Tables) (xs : List ItemCode) → all_items (map (seen_item_code n) xs) ≡ items_all (seen_items n xs)
all_done n [] = refl
all_done n (x ∷ xs) = let y = seen_item_code n x in ap (λ is. c.item_code y.0 y.1.0 y.1.1 is) (all_done n xs)

pub list_ended : (old new : Machine) (i : Iteration) (code : Code) → i.left.items ≡ [] → ((n : Tables) → seen_code n code ≡ c.listed_code (seen_listing n i.listing) (seen_spot i.spot) (all_items (map (seen_item_code n) i.done.items)))
    → Moves (λ n m. s.show (seen_code n code, m.state) m) old new → Moves (λ n k. s.do_end_each k k.rest.frames k.rest.here (call_kind n (call.Each i))) old new
list_ended old new i code none is shown n st =
    let m = mach_by n st old in
    let z = seen_listing n i.listing in
    let x = seen_spot i.spot in
    ap (λ es. s.do_end_each m m.rest.frames m.rest.here (in_each z x i.start es (seen_items n i.done.items))) (none_seen i.left.items none)
    ∙ (ap (λ is. s.show (c.listed_code z x is, st) m) (sym (all_done n i.done.items)) ∙ (ap (λ b. s.show (b, st) m) (sym (is n)) ∙ shown n st))

all_free : (m : Mach) (xs fs : List PlainFrame) (h : PlainHere) (z : c.Listing) (x : PlainSpot) (start : ℕ) (es : List PlainEntry) (done : List PlainItem)
    → s.do_end_each (with_frames xs m) fs h (in_each z x start es done) ≡ s.do_end_each m fs h (in_each z x start es done)
all_free m xs fs h z x start [] done = refl
all_free m xs fs h z x start (e ∷ es) done = refl

pub end_each_free : (n : Tables) (m : Mach) (xs fs : List PlainFrame) (h : PlainHere) (k : Call) → s.do_end_each (with_frames xs m) fs h (call_kind n k) ≡ s.do_end_each m fs h (call_kind n k)
end_each_free n m xs fs h (call.Getter b) = refl
end_each_free n m xs fs h (call.Parts b) = refl
end_each_free n m xs fs h (call.Each i) = all_free m xs fs h (seen_listing n i.listing) (seen_spot i.spot) i.start (seen_left i.left.items) (seen_items n i.done.items)
