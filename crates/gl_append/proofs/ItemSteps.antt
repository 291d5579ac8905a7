-- Items that begin and end.
use Rattle.std.proofs.Common.{◌≡◌, ℕ, suc, Bool, List, [], ◌∷◌, ◌++◌, Option, refl, sym, subst, ◌∙◌, ap, ap₂}
use Rattle.std.proofs.lemmas.List.{map-append}
use Rattle.std.specs.declared.vec.Vec.{Vec}
use Rattle.std.specs.declared.alloc.Global.{Global}
use Rattle.gl_arena.specs.Id.{Id}
use Rattle.gl_value.specs.Value.{plain, count_value}
use Rattle.gl_value.specs.View.{view}
use Rattle.gl_value.specs.declared.value.Value.{Value}
use Rattle.gl_meaning.specs.Path.{item, items, Path, V}
use Rattle.gl_meaning.specs.Render.{Entry as PlainEntry}
use Rattle.gl_meaning.specs.Scope.{Source}
use Rattle.gl_meaning.specs.View.{path_view}
use Rattle.gl_meaning.specs.declared.path.Path.{Path as CodePath}
use Rattle.gl_plain.specs.Ids.{a_ref}
use Rattle.gl_plain.specs.State.{State}
use Rattle.gl_plain.specs.Binding.{Spot as PlainSpot}
use Rattle.gl_plain.specs.Naming.{by_number, made_source}
use Rattle.gl_machine.specs.Code as c
use Rattle.gl_machine.specs.RenewCode.{CodeArm, commented, item_locals, refs_in}
use Rattle.gl_machine.specs.Sight as w
use Rattle.gl_machine.specs.Mach.{Frame as PlainFrame, Here as PlainHere, Item as PlainItem, in_each, in_item, Mach, Run, going, go, fresh, next_at}
use Rattle.gl_machine.specs.Step as s
use Rattle.gl_vm.specs.Labels.{label, labelled}
use Rattle.gl_vm.specs.View.{Tables, stamps, state_of, Agrees}
use Rattle.gl_vm.specs.Steps.{Does, Numbers}
use Rattle.gl_vm.specs.declared.vm.Vm.{Vm}
use Rattle.gl_code.specs.View.{refs_made, seen_sight}
use Rattle.gl_code.specs.CodeView.{seen_listing, seen_spot, seen_item_spot, stamp_of, seen_codes, seen_item_code}
use Rattle.gl_append.specs.MachineView.{seen_here, item_with, seen_item, seen_items, seen_kind, call_kind, mach_by, mach_of}
use Rattle.gl_code.specs.Entries.{seen_left}
use Rattle.gl_append.specs.Steps.{GoesOn, Changes, Begins, Ends, EndsFrame, EndsCall}
use Rattle.gl_code.specs.Comments.{Commented}
use Rattle.gl_append.specs.ListSteps.{list_waiting, body_entered, ItemBegins, ItemDone}
use Rattle.gl_code.specs.declared.code.Codes.{Codes}
use Rattle.gl_code.specs.declared.code.ItemCode.{ItemCode}
use Rattle.gl_code.specs.declared.code.ItemSpot.{ItemSpot}
use Rattle.gl_code.specs.declared.sight.Sight.{Sight}
use Rattle.gl_code.specs.declared.entries.Entry.{Entry}
use Rattle.gl_append.specs.declared.machine.Here.{Here}
use Rattle.gl_append.specs.declared.machine.Iteration.{Iteration}
use Rattle.gl_append.specs.declared.machine.Kind.TheVariants as kind
use Rattle.gl_append.specs.declared.machine.Call.{Call}
use Rattle.gl_append.specs.declared.machine.Call.TheVariants as call
use Rattle.gl_append.specs.declared.machine.Machine.{Machine}
use Rattle.gl_code.proofs.EntryLists.{next_left}
use Rattle.gl_append.proofs.LetEnds.{with_frames}
use Rattle.gl_code.proofs.Doing.{does_then}

-- An item that begins

pub item_entered : (old new : Machine) (path : CodePath) (sight : Sight) (i : Iteration) (x : ItemSpot) (none : List Id) → none ≡ []
    → Begins (record old { made = none; pc = i.listing.body; sight = sight }) new path (kind.Item i x)
    → Changes (λ n. body_entered (seen_sight n sight) (path_view path) i.listing.body (seen_kind n (kind.Item i x))) old new
item_entered old new path sight i x none e b n st =
    let m = mach_by n st old in
    let g : List Id → Mach = λ y. record {
      state = st;
      stack = m.stack;
      made = refs_made y;
      pc = i.listing.body;
      rest = record m.rest {
        sight = seen_sight n sight;
        here = fresh (path_view path);
        frames = m.rest.frames ++ record { here = m.rest.here; kind = seen_kind n (kind.Item i x) } ∷ [];
      };
    } in
    ap g (sym e) ∙ sym (b n st)

pub item_begun : (vm vm1 vm2 : Vm) (old new : Machine) (i : Iteration) (e : Entry) (v x : Id) (count : Value) (params : List Id) (sight : Sight) (path : CodePath)
    → Does (λ n. made_source by_number (label vm.refs.rows.made) (labelled (view e.value))) vm vm1 → Numbers vm.refs.rows vm1.refs.rows v
    → Does (λ n. made_source by_number (label vm1.refs.rows.made) (labelled (view count))) vm1 vm2 → Numbers vm1.refs.rows vm2.refs.rows x → view count ≡ count_value e.index
    → ((n : Tables) → path_view path ≡ item (plain (view e.key)) e.occurrence ∷ items ∷ next_at (seen_here n old.here))
    → ((n : Tables) → seen_sight n sight ≡ w.with_locals (item_locals (seen_listing n i.listing) v.1 x.1) (seen_sight n i.listing.sight.value))
    → ((n : Tables) → stamps params ≡ refs_in (item_locals (seen_listing n i.listing) v.1 x.1))
    → Changes (λ n. body_entered (seen_sight n sight) (path_view path) i.listing.body (seen_kind n (kind.Item i (record { key = e.key; occurrence = e.occurrence; value = v; index = x; params = params })))) old new
    → ItemBegins vm old i e vm2 new
item_begun vm vm1 vm2 old new i e v x count params sight path d1 i1 d2 i2 counts p q r l n t a =
    let st : State = state_of n vm t in
    let f1 : State → State = made_source by_number (label vm.refs.rows.made) (labelled (view e.value)) in
    let st1 : State = f1 st in
    let st2 : State = made_source by_number (label vm1.refs.rows.made) (labelled (view count)) st1 in
    let m = mach_by n st old in
    let z = seen_listing n i.listing in
    let es = seen_left i.left.items in
    let second : st1.next a_ref ≡ vm1.refs.rows.made = ap (λ (y : State). y.next a_ref) (sym (d1 n t a).state) in
    let number : labelled (view count) ≡ count_value e.index = ap labelled counts in
    let g : Path → ℕ → ℕ → List ℕ → w.Sight → State → Run = λ y b j ps u k. go k m.stack [] z.body (record m.rest {
      sight = u;
      here = fresh y;
      frames = m.rest.frames
          ++ record { here = m.rest.here; kind = in_item z (seen_spot i.spot) i.start es (seen_items n i.done.items) (record { key = plain (view e.key); occurrence = e.occurrence; value = b; index = j; more = []; params = ps }) } ∷ [];
    }) in
    let from : Path → ℕ → ℕ → ℕ → V → Run = λ y b j o u. g y b j (refs_in (item_locals z b j)) (w.with_locals (item_locals z b j) z.sight) (made_source by_number (label o) u st1) in
    let q0 : Path = item (plain (view e.key)) e.occurrence ∷ items ∷ next_at (seen_here n old.here) in
    record {
      state = st2;
      follows = does_then (λ n. f1) (λ n. made_source by_number (label vm1.refs.rows.made) (labelled (view count))) vm vm1 vm2 d1 d2 n t a;
      goes = ap (λ b. from q0 b (st1.next a_ref) (st1.next a_ref) (count_value e.index)) (sym i1.stamp)
          ∙ (ap (λ o. from q0 v.1 o o (count_value e.index)) second
          ∙ (ap (λ j. from q0 v.1 j vm1.refs.rows.made (count_value e.index)) (sym i2.stamp)
          ∙ (ap (λ u. from q0 v.1 x.1 vm1.refs.rows.made u) (sym number)
          ∙ (ap (λ y. from y v.1 x.1 vm1.refs.rows.made (labelled (view count))) (sym (p n))
          ∙ (ap₂ (λ ps u. g (path_view path) v.1 x.1 ps u st2) (sym (r n)) (sym (q n)) ∙ ap going (l n st2))))));
    }

-- the next item is the last of those that are left
pub next_begun : (vm vm' : Vm) (old new : Machine) (i : Iteration) (left : Vec Entry Global) (e : Entry) → i.left.items ≡ left.items ++ e ∷ [] → ItemBegins vm old (record i { left = left }) e vm' new
    → EndsCall (λ n. s.do_item_as by_number) vm old (call.Each i) vm' new
next_begun vm vm' old new i left e is b n t a =
    let m = mach_of n t vm old in
    subst (λ es. GoesOn n (s.do_item_as by_number m m.rest.frames (seen_here n old.here) (in_each (seen_listing n i.listing) (seen_spot i.spot) i.start es (seen_items n i.done.items))) vm' new)
    (sym (next_left i.left.items left.items e is)) (b n t a)

each_free : (m : Mach) (xs fs : List PlainFrame) (h : PlainHere) (z : c.Listing) (x : PlainSpot) (start : ℕ) (es : List PlainEntry) (done : List PlainItem)
    → s.do_item_as by_number (with_frames xs m) fs h (in_each z x start es done) ≡ s.do_item_as by_number m fs h (in_each z x start es done)
each_free m xs fs h z x start [] done = refl
each_free m xs fs h z x start (e ∷ es) done = refl

pub item_free : (n : Tables) (m : Mach) (xs fs : List PlainFrame) (h : PlainHere) (k : Call) → s.do_item_as by_number (with_frames xs m) fs h (call_kind n k) ≡ s.do_item_as by_number m fs h (call_kind n k)
item_free n m xs fs h (call.Getter b) = refl
item_free n m xs fs h (call.Parts b) = refl
item_free n m xs fs h (call.Each i) = each_free m xs fs h (seen_listing n i.listing) (seen_spot i.spot) i.start (seen_left i.left.items) (seen_items n i.done.items)

-- An item that ends

pub one_done : (old new : Machine) (i : Iteration) (done : Vec ItemCode Global) (x : ItemCode) (sight : Sight) (pc : ℕ) → done.items ≡ i.done.items ++ x ∷ [] → ((n : Tables) → seen_sight n sight ≡ seen_sight n i.listing.sight.value)
    → pc ≡ s.next_item (seen_left i.left.items) i.start (suc old.pc)
    → Changes (λ n. list_waiting (in_each (seen_listing n i.listing) (seen_spot i.spot) i.start (seen_left i.left.items) (seen_items n done.items)) pc) (record old { sight = sight }) new → ItemDone old i x new
one_done old new i done x sight pc e q r l n st =
    let m = mach_by n st old in
    let z = seen_listing n i.listing in
    let es = seen_left i.left.items in
    let g : List PlainItem → ℕ → w.Sight → Mach = λ ys k u. list_waiting (in_each z (seen_spot i.spot) i.start es ys) k (record m { rest = record m.rest { sight = u } }) in
    let items : seen_items n done.items ≡ seen_items n i.done.items ++ seen_item n x ∷ [] = ap (seen_items n) e ∙ map-append (seen_item n) i.done.items (x ∷ []) in
    ap (λ ys. g ys (s.next_item es i.start (suc m.pc)) z.sight) (sym items) ∙ (ap (λ k. g (seen_items n done.items) k z.sight) (sym r) ∙ (ap (λ u. g (seen_items n done.items) pc u) (sym (q n)) ∙ l n st))

pub item_ended : (vm vm' : Vm) (old mid new : Machine) (i : Iteration) (x : ItemSpot) (k : Option Id) (here : Here) (body : Codes) (done : ItemCode) → old.calls.items ≡ [] → Ends old mid here body
    → ((n : Tables) (t : Source → Bool) → Agrees t vm → Commented n (seen_codes n body, state_of n vm t) vm' k) → ((n : Tables) → seen_item_code n done ≡ (seen_item_spot x, (stamp_of k, seen_codes n body)))
    → ItemDone mid i done new → EndsFrame (λ n. s.do_end_item) vm old (record { here = here; kind = kind.Item i x }) vm' new
item_ended vm vm' old mid new i x k here body done none ends got is d n t a =
    let m = mach_of n t vm old in
    let h = seen_here n here in
    let z = seen_listing n i.listing in
    let es = seen_left i.left.items in
    let w = got n t a in
    let f : PlainItem → Mach → Mach = λ y b. list_waiting (in_each z (seen_spot i.spot) i.start es (seen_items n i.done.items ++ y ∷ [])) (s.next_item es i.start (suc b.pc)) (record b { rest = record b.rest { sight = z.sight } }) in
    let g : CodeArm → Run = λ y. going (f (record { spot = seen_item_spot x; comment = y.comment; codes = y.codes }) (record m { state = y.state; rest = record m.rest { here = h } })) in
    record {
      state = w.state;
      follows = w.follows;
      goes = ap (λ cs. g (commented (cs, m.state))) (sym (ends.0 n))
          ∙ (ap g w.is
          ∙ (ap (λ y. going (f (item_with y) (record m { state = w.state; rest = record m.rest { here = h } }))) (sym (is n))
          ∙ (ap (λ b. going (f (seen_item n done) b)) (sym (ends.1 none n w.state)) ∙ ap going (d n w.state))));
    }
