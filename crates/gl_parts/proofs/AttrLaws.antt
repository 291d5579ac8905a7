-- The attributes of an element, one after another.
use Rattle.std.proofs.Common.{◌≡◌, ℕ, List, [], ◌∷◌, ◌++◌, map, Bool, true, false, Option, refl, sym, ◌∙◌, ap, ap₂, append_assoc, append-nil}
use Rattle.std.specs.Prelude.{if◌then◌else◌, filter, codes}
use Rattle.std.specs.Str.{bytes_eq, chars}
use Rattle.std.specs.declared.vec.Vec.{Vec}
use Rattle.std.specs.declared.alloc.Global.{Global}
use Rattle.std.proofs.lemmas.List.{map-append}
use Rattle.gl_base.proofs.Chars.{chars_of_ascii}
use Rattle.gl_arena.specs.Id.{Id}
use Rattle.gl_base.specs.Texts.{Text}
use Rattle.gl_value.specs.Value.{text}
use Rattle.gl_meaning.specs.Scope.{Source}
use Rattle.gl_meaning.specs.Parts.{Attrs, last_only, joined_texts, attribute_value}
use Rattle.gl_plain.specs.Ids.{a_ref, ref, Id as Name}
use Rattle.gl_plain.specs.State.{constant_form, pair_of, State}
use Rattle.gl_plain.specs.Binding.{made_row, BoundAll, place}
use Rattle.gl_plain.specs.Live.{AttrSpot}
use Rattle.gl_plain.specs.Tags.{Given, fixed_given, live_given, attributes_waiting, names_waiting, taken_waiting, some_waiting_live, given_pairs, given_refs, AttrsGiven, give_attr, give_attrs, flush_parts}
use Rattle.gl_vm.specs.View.{Tables, stamps, state_of}
use Rattle.gl_vm.specs.Steps.{Does, Numbers}
use Rattle.gl_vm.specs.declared.vm.Vm.{Vm}
use Rattle.gl_code.specs.View.{refs_made}
use Rattle.gl_code.specs.CodeView.{seen_attr_spot}
use Rattle.gl_parts.specs.Parts.{seen_parts, Leads, seen_attribute, seen_attributes, texts_given, bound_after, given_after, attr_placed}
use Rattle.gl_code.specs.declared.code.AttrSpot.{AttrSpot as CodeAttr}
use Rattle.gl_parts.specs.declared.waiting.Waiting.{Waiting}
use Rattle.gl_parts.specs.declared.attributes.Attribute.{Attribute}
use Rattle.gl_code.proofs.ListLaws.{listed_on}
use Rattle.gl_parts.proofs.Leading.{leads_then, leads_so, leads_still, does_leads, placed_in}
use Rattle.gl_parts.proofs.NameLists.{texts_sym, last_is}

-- What an attribute of a name takes

pub class_is : chars (codes "class") ≡ codes "class"
class_is = chars_of_ascii (codes "class") refl

pub class_takes : (n : Text) (ws : List (Text × Given)) → bytes_eq (codes "class") n ≡ true → taken_waiting n ws ≡ filter (λ w. bytes_eq n w.0) ws
class_takes n ws h = let group = filter (λ w. bytes_eq n w.0) ws in ap (λ b. if b then group else last_only group) (texts_sym n (codes "class") ∙ h)

pub other_takes : (n : Text) (ws : List (Text × Given)) → bytes_eq (codes "class") n ≡ false → taken_waiting n ws ≡ last_only (filter (λ w. bytes_eq n w.0) ws)
other_takes n ws h = let group = filter (λ w. bytes_eq n w.0) ws in ap (λ b. if b then group else last_only group) (texts_sym n (codes "class") ∙ h)

pub last_taken : (list rest none last : List Attribute) (x : Attribute) → list ≡ rest ++ x ∷ [] → none ≡ [] → last ≡ none ++ x ∷ [] → seen_attributes last ≡ last_only (seen_attributes list)
last_taken list rest none last x e1 e2 e3 =
    ap seen_attributes (e3 ∙ ap (λ ys. ys ++ x ∷ []) e2)
    ∙ sym (ap (λ ys. last_only (seen_attributes ys)) e1 ∙ (ap last_only (map-append seen_attribute rest (x ∷ [])) ∙ last_is (seen_attributes rest) (seen_attribute x)))

-- References

pub text_bound : (name t : Text) (w : Given) (ids made more kept : List Id) (id : Id) (a b : Vm) → w ≡ fixed_given t → Does (λ n. made_row (constant_form (text t))) a b → Numbers a.refs.rows b.refs.rows id → more ≡ ids ++ id ∷ [] → kept ≡ made ++ id ∷ []
    → Leads (λ n x y. (ws : List (Text × Given)) → bound_after (stamps ids) (refs_made made) (given_refs ((name, w) ∷ ws) x) ≡ bound_after (stamps more) (refs_made kept) (given_refs ws y)) a b
text_bound name t w ids made more kept id a b g x i e d n u ag = record {
  state = made_row (constant_form (text t)) (state_of n a u);
  follows = x n u ag;
  is = λ ws.
      let c : BoundAll = given_refs ws (made_row (constant_form (text t)) (state_of n a u)) in
      ap (λ v. bound_after (stamps ids) (refs_made made) (given_refs ((name, v) ∷ ws) (state_of n a u))) g
      ∙ ap (λ r. bound_after (stamps ids) (refs_made made) (record { ids = r ∷ c.ids; made = ref r ∷ c.made; state = c.state })) (sym i.stamp)
      ∙ ap₂ (λ rs ms. record { ids = rs; made = ms; state = c.state }) (sym (listed_on (λ (j : Id). j.1) ids more id c.ids e)) (sym (listed_on (λ (j : Id). ref j.1) made kept id c.made d));
}

pub live_bound : (name : Text) (w : Given) (ids made more : List Id) (id : Id) (a : Vm) → w ≡ live_given id.1 → more ≡ ids ++ id ∷ []
    → Leads (λ n x y. (ws : List (Text × Given)) → bound_after (stamps ids) (refs_made made) (given_refs ((name, w) ∷ ws) x) ≡ bound_after (stamps more) (refs_made made) (given_refs ws y)) a a
live_bound name w ids made more id a g e =
    leads_still (λ n x y. (ws : List (Text × Given)) → bound_after (stamps ids) (refs_made made) (given_refs ((name, w) ∷ ws) x) ≡ bound_after (stamps more) (refs_made made) (given_refs ws y)) a
    (λ n u ws.
    let c : BoundAll = given_refs ws (state_of n a u) in
    ap (λ v. bound_after (stamps ids) (refs_made made) (given_refs ((name, v) ∷ ws) (state_of n a u))) g ∙ ap (λ rs. record { ids = rs; made = refs_made made ++ c.made; state = c.state }) (sym (listed_on (λ (j : Id). j.1) ids more id c.ids e)))

pub bound_end : (ids : List ℕ) (made : List Name) (y : State) → bound_after ids made (given_refs [] y) ≡ record { ids = ids; made = made; state = y }
bound_end ids made y = ap₂ (λ rs ms. record { ids = rs; made = ms; state = y }) (append-nil ids) (append-nil made)

-- Attributes

pub given_end : (attrs : Attrs) (spots : List AttrSpot) (y : State) → given_after attrs spots (record { attrs = []; spots = []; state = y }) ≡ record { attrs = attrs; spots = spots; state = y }
given_end attrs spots y = ap₂ (λ xs ss. record { attrs = xs; spots = ss; state = y }) (append-nil attrs) (append-nil spots)

-- one more attribute, and one more position
given_more : (attrs more : Attrs) (spots with : List AttrSpot) (x : Text × Option Text) (s : AttrSpot) (r : AttrsGiven) → more ≡ attrs ++ x ∷ [] → with ≡ spots ++ s ∷ []
    → given_after attrs spots (record { attrs = x ∷ r.attrs; spots = s ∷ r.spots; state = r.state }) ≡ given_after more with r
given_more attrs more spots with x s r e d =
    sym (ap₂ (λ xs ss. given_after xs ss r) e d ∙ ap₂ (λ xs ss. record { attrs = xs; spots = ss; state = r.state }) (append_assoc attrs (x ∷ []) r.attrs) (append_assoc spots (s ∷ []) r.spots))

-- a position over some references, with the value that they give
pub spot_placed : (name : Text) (value : Option Text) (ws : List (Text × Given)) (ids made : List Id) (id : Id) (texts : List Text) (attrs more : Attrs) (spots with : List AttrSpot) (a b c : Vm)
    → Leads (λ n x y. given_refs ws x ≡ record { ids = stamps ids; made = refs_made made; state = y }) a b
    → ((n : Tables) (u : Source → Bool) → texts ≡ texts_given (map (pair_of (state_of n b u).look) (stamps ids))) → value ≡ joined_texts texts
    → Does (λ n. placed_in (stamps ids)) b c → Numbers b.refs.rows c.refs.rows id
    → (more ≡ attrs ++ (name, value) ∷ []) × (with ≡ spots ++ record { name = name; spot = record { ref = id.1; made = refs_made made ++ ref id.1 ∷ [] } } ∷ [])
    → Leads (λ n x y. (rest : State → AttrsGiven) → given_after attrs spots (attr_placed name (place (given_refs ws x)) rest) ≡ given_after more with (rest y)) a c
spot_placed name value ws ids made id texts attrs more spots with a b c p v j d i e =
    leads_then (λ n x y. given_refs ws x ≡ record { ids = stamps ids; made = refs_made made; state = y })
    (λ n x y. (value ≡ attribute_value (map (pair_of x.look) (stamps ids))) × (x.next a_ref ≡ id.1) × (placed_in (stamps ids) x ≡ y))
    (λ n x y. (rest : State → AttrsGiven) → given_after attrs spots (attr_placed name (place (given_refs ws x)) rest) ≡ given_after more with (rest y)) a b c p
    (leads_so (λ n x y. placed_in (stamps ids) x ≡ y) (λ n x y. (value ≡ attribute_value (map (pair_of x.look) (stamps ids))) × (x.next a_ref ≡ id.1) × (placed_in (stamps ids) x ≡ y)) b c (does_leads (λ n. placed_in (stamps ids)) b c d)
    (λ n u y q. (j ∙ ap joined_texts (v n u), sym i.stamp, q)))
    (λ n x y z q r rest.
    let f : Option Text → ℕ → State → AttrsGiven
    = λ o k st. let g = rest st in given_after attrs spots (record { attrs = (name, o) ∷ g.attrs; spots = record { name = name; spot = record { ref = k; made = refs_made made ++ ref k ∷ [] } } ∷ g.spots; state = g.state }) in
    ap (λ (s : BoundAll). given_after attrs spots (attr_placed name (place s) rest)) q
    ∙ (ap (λ o. f o (y.next a_ref) (placed_in (stamps ids) y)) (sym r.0) ∙ (ap₂ (f value) r.1 r.2
    ∙ given_more attrs more spots with (name, value) (record { name = name; spot = record { ref = id.1; made = refs_made made ++ ref id.1 ∷ [] } }) (rest z) e.0 e.1)))

pub live_given_on : (name : Text) (ws : List (Text × Given)) (f g : AttrsGiven → AttrsGiven) (a b : Vm) → some_waiting_live ws ≡ true
    → Leads (λ n x y. (rest : State → AttrsGiven) → f (attr_placed name (place (given_refs ws x)) rest) ≡ g (rest y)) a b
    → Leads (λ n x y. (rest : State → AttrsGiven) → f (give_attr name ws x rest) ≡ g (rest y)) a b
live_given_on name ws f g a b e p =
    leads_so (λ n x y. (rest : State → AttrsGiven) → f (attr_placed name (place (given_refs ws x)) rest) ≡ g (rest y)) (λ n x y. (rest : State → AttrsGiven) → f (give_attr name ws x rest) ≡ g (rest y)) a b p
    (λ n t y q rest.
    let x = state_of n a t in
    let r = rest x in
    ap (λ d. f (if d then attr_placed name (place (given_refs ws x)) rest else record { attrs = (name, attribute_value (given_pairs ws)) ∷ r.attrs; spots = r.spots; state = r.state })) e ∙ q rest)

pub fixed_given_on : (name : Text) (ws : List (Text × Given)) (attrs more : Attrs) (spots with : Vec CodeAttr Global) (a : Vm) → some_waiting_live ws ≡ false
    → (more ≡ attrs ++ (name, attribute_value (given_pairs ws)) ∷ []) × (with ≡ spots)
    → Leads (λ n x y. (rest : State → AttrsGiven) → given_after attrs (map seen_attr_spot spots.items) (give_attr name ws x rest) ≡ given_after more (map seen_attr_spot with.items) (rest y)) a a
fixed_given_on name ws attrs more spots with a e d =
    leads_still (λ n x y. (rest : State → AttrsGiven) → given_after attrs (map seen_attr_spot spots.items) (give_attr name ws x rest) ≡ given_after more (map seen_attr_spot with.items) (rest y)) a
    (λ n t rest.
    let x = state_of n a t in
    let r = rest x in
    ap (λ c. given_after attrs (map seen_attr_spot spots.items) (if c then attr_placed name (place (given_refs ws x)) rest else record { attrs = (name, attribute_value (given_pairs ws)) ∷ r.attrs; spots = r.spots; state = r.state })) e
    ∙ ap₂ (λ xs (ss : Vec CodeAttr Global). record { attrs = xs; spots = map seen_attr_spot ss.items ++ r.spots; state = r.state }) (sym (ap (λ xs. xs ++ r.attrs) d.0 ∙ append_assoc attrs ((name, attribute_value (given_pairs ws)) ∷ []) r.attrs)) (sym d.1))

-- an attribute of a list of names
pub attr_goes : (ws : List (Text × Given)) (name : Text) (taken : List (Text × Given)) (f g : AttrsGiven → AttrsGiven) (a b : Vm) → taken ≡ taken_waiting name ws
    → Leads (λ n x y. (rest : State → AttrsGiven) → f (give_attr name taken x rest) ≡ g (rest y)) a b → Leads (λ n x y. (ks : List Text) → f (give_attrs ws (name ∷ ks) x) ≡ g (give_attrs ws ks y)) a b
attr_goes ws name taken f g a b e p =
    leads_so (λ n x y. (rest : State → AttrsGiven) → f (give_attr name taken x rest) ≡ g (rest y)) (λ n x y. (ks : List Text) → f (give_attrs ws (name ∷ ks) x) ≡ g (give_attrs ws ks y)) a b p
    (λ n t y q ks. ap (λ us. f (give_attr name us (state_of n a t) (give_attrs ws ks))) (sym e) ∙ q (give_attrs ws ks))

pub flushed_of : (parts : List Waiting) (list : List Attribute) (attrs : Attrs) (spots : List AttrSpot) (a b : Vm) → ((n : Tables) → seen_attributes list ≡ attributes_waiting (seen_parts n parts))
    → Leads (λ n x y. give_attrs (seen_attributes list) (names_waiting (seen_attributes list)) x ≡ record { attrs = attrs; spots = spots; state = y }) a b
    → Leads (λ n x y. flush_parts (seen_parts n parts) x ≡ record { attrs = attrs; spots = spots; state = y }) a b
flushed_of parts list attrs spots a b e p =
    leads_so (λ n x y. give_attrs (seen_attributes list) (names_waiting (seen_attributes list)) x ≡ record { attrs = attrs; spots = spots; state = y }) (λ n x y. flush_parts (seen_parts n parts) x ≡ record { attrs = attrs; spots = spots; state = y }) a b p
    (λ n t y q. ap (λ ws. give_attrs ws (names_waiting ws) (state_of n a t)) (sym (e n)) ∙ q)
