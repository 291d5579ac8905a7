-- The instances of a tree, among what its ids are tied to.
use Rattle.std.proofs.Common.{◌≡◌, ◌<◌, ℕ, zero, suc, max, List, [], ◌∷◌, ◌++◌, Bool, true, false, true≢false, Option, Some, None, refl, sym, ap, ◌∙◌, subst, arith, inl, inr, ◌⊎◌}
use Rattle.std.specs.Prelude.{filter_map, unwrap_or, if◌then◌else◌}
use Rattle.std.specs.Str.{bytes_eq}
use Rattle.gl_base.specs.Texts.{Text}
use Rattle.gl_base.specs.Names.{named}
use Rattle.gl_ast.specs.Template.{Plain}
use Rattle.gl_meaning.specs.App.{App}
use Rattle.gl_meaning.specs.Path.{Path, V, at, main, otherwise, items, item, slot}
use Rattle.gl_meaning.specs.Scope.{Source, cell}
use Rattle.gl_meaning.specs.Eval.{Store, class_at, cell_value, Member, field_member, field_or, getter_or_action, member_of}
use Rattle.gl_meaning.specs.Known.{Among}
use Rattle.gl_meaning.specs.Order.{names_of}
use Rattle.gl_meaning.proofs.Equal.{text_means}
use Rattle.gl_meaning.proofs.Pieces.{among_either, among_left, filter_map_append}
use Rattle.gl_plain.specs.Ids.{Id, ref}
use Rattle.gl_plain.specs.State.{Form, constant_form, source_form, property_form, call_form, joined_form, all_form, Inst, Names, cell_ref, mscope, mnothing, row, content, instance_row, block_row, modifier_row, Thing, State}
use Rattle.gl_plain.specs.Live.{AttrSpot, ModSpot, ItemSpot, Live, still, put_live, element_live, branch_live, listed, unlisted, let_live, component_live, yield_live, deep_live, Items, no_items, item_live, Lives, no_lives, live_and, times_in}
use Rattle.gl_plain.specs.Laid.{rest_in, CellsHoldIn}
use Rattle.gl_plain.specs.Stands.{top}
use Rattle.gl_plain.specs.Machine.{no_place, RootStands, StandsFor}
use Rattle.gl_naming.specs.Renamed.{there_with}
use Rattle.gl_naming.specs.Numbered.{number, OwnSource, NumberedThing}
use Rattle.gl_naming.specs.Ties.{ties, ties_items, ties_in, cell_ties}
use Rattle.gl_naming.specs.Sits.{Sits, SitsItems, SitsIn}
use Rattle.gl_turns.specs.Places.{Place, instance_in, comment_places, attr_places, mod_places, places, places_items, places_in}
use Rattle.gl_turns.proofs.Touched.{source_row}
use Rattle.gl_turns.proofs.Held.{Cells, component_cells, cells_in}

pub among_right : {A : Type 0} (x : A) (xs ys : List A) → Among x ys → Among x (xs ++ ys)
among_right x [] ys m = m
among_right x (z ∷ xs) ys m = inr (among_right x xs ys m)

-- Where instances stand

abbrev pub insts : List Place → List (Path × Inst)
insts xs = filter_map instance_in xs

pub in_either : (z : Path × Inst) (xs ys : List Place) → Among z (insts (xs ++ ys)) → Among z (insts xs) ⊎ Among z (insts ys)
in_either z xs ys m = among_either z (insts xs) (insts ys) (subst (Among z) (filter_map_append instance_in xs ys) m)

no_attr : (z : Path × Inst) (p : Path) (xs : List AttrSpot) → Among z (insts (attr_places p xs)) → ⊥
no_attr z p [] m = m
no_attr z p (a ∷ xs) m = no_attr z p xs m

no_mod : (z : Path × Inst) (p : Path) (i : ℕ) (zs : List ModSpot) → Among z (insts (mod_places p i zs)) → ⊥
no_mod z p i [] m = m
no_mod z p i (y ∷ zs) m = no_mod z p (suc i) zs m

no_comment : (z : Path × Inst) (p : Path) (k : Option ℕ) → Among z (insts (comment_places p k)) → ⊥
no_comment z p None m = m
no_comment z p (Some n) m = m

pub in_element : (z : Path × Inst) (p : Path) (xs : List AttrSpot) (ys : List Place) (zs : List ModSpot) → Among z (insts (attr_places p xs ++ (ys ++ mod_places p 0 zs))) → Among z (insts ys)
in_element z p xs ys zs m = elim (in_either z (attr_places p xs) (ys ++ mod_places p 0 zs) m) [
  | inl a ↦ absurd (no_attr z p xs a)
  | inr b ↦ elim (in_either z ys (mod_places p 0 zs) b) [ inl c ↦ c | inr d ↦ absurd (no_mod z p 0 zs d) ]
]

pub in_arm : (z : Path × Inst) (p : Path) (ys : List Place) (k : Option ℕ) → Among z (insts (ys ++ comment_places p k)) → Among z (insts ys)
in_arm z p ys k m = elim (in_either z ys (comment_places p k) m) [ inl c ↦ c | inr d ↦ absurd (no_comment z p k d) ]

-- An instance of a tree that sits right has the cells of its class, and what it is tied to is tied in the tree.
module _ (app : App) {A : Type 0} (of_instance : Inst → List (ℕ × A)) (of_item : Path → ItemSpot → List (ℕ × A)) where
  abbrev pub TiedIn : List (ℕ × A) → Path × Inst → Type 0
  TiedIn ys z = (names_of z.1.cells ≡ names_of (class_at app z.1.path).fields) × ((y : ℕ × A) → Among y (of_instance z.1) → Among y ys)

  at_left : (xs ys : List (ℕ × A)) (z : Path × Inst) → TiedIn xs z → TiedIn (xs ++ ys) z
  at_left xs ys z t = (t.0, λ y m. among_left y xs ys (t.1 y m))

  at_right : (xs ys : List (ℕ × A)) (z : Path × Inst) → TiedIn ys z → TiedIn (xs ++ ys) z
  at_right xs ys z t = (t.0, λ y m. among_right y xs ys (t.1 y m))

  mutual
    pub tied : (p : Path) (l : Live) → Sits app p l → (z : Path × Inst) → Among z (insts (places p l)) → TiedIn (ties of_instance of_item p l) z
    tied p (still n) s z m = absurd m
    tied p (put_live n x) s z m = absurd m
    tied p (element_live n made xs zs ls) s z m = tied_in p 0 ls s z (in_element z p xs (places_in p 0 ls) zs m)
    tied p (branch_live x true k ls) s z m = tied_in (main ∷ p) 0 ls s z (in_arm z (main ∷ p) (places_in (main ∷ p) 0 ls) k m)
    tied p (branch_live x false k ls) s z m = tied_in (otherwise ∷ p) 0 ls s z (in_arm z (otherwise ∷ p) (places_in (otherwise ∷ p) 0 ls) k m)
    tied p (listed x is) s z m = tied_items (items ∷ p) is s z m
    tied p (unlisted x k ls) s z m = tied_in (otherwise ∷ p) 0 ls s z (in_arm z (otherwise ∷ p) (places_in (otherwise ∷ p) 0 ls) k m)
    tied p (let_live made rs ls) s z m = tied_in (main ∷ p) 0 ls s z m
    tied p (component_live i made gm args k ls) s z m = elim m [
      | inl e ↦ subst (TiedIn (of_instance i ++ ties_in of_instance of_item i.path 0 ls)) (sym e) (s.1, λ y w. among_left y (of_instance i) (ties_in of_instance of_item i.path 0 ls) w)
      | inr w ↦ at_right (of_instance i) (ties_in of_instance of_item i.path 0 ls) z (tied_in i.path 0 ls s.2 z w)
    ]
    tied p (yield_live n made rs ls) s z m = tied_in (slot n ∷ p) 0 ls s z m
    tied p (deep_live q) s z m = absurd m

    pub tied_items : (p : Path) (is : Items) → SitsItems app p is → (z : Path × Inst) → Among z (insts (places_items p is)) → TiedIn (ties_items of_instance of_item p is) z
    tied_items p no_items s z m = absurd m
    tied_items p (item_live x k ls is) s z m =
        let q = item x.key x.occurrence ∷ p in
        let here = of_item q x ++ ties_in of_instance of_item q 0 ls in
        elim (in_either z (places_in q 0 ls ++ comment_places q k) (places_items p is) m) [
          | inl a ↦ at_left here (ties_items of_instance of_item p is) z (at_right (of_item q x) (ties_in of_instance of_item q 0 ls) z (tied_in q 0 ls s.1 z (in_arm z q (places_in q 0 ls) k a)))
          | inr b ↦ at_right here (ties_items of_instance of_item p is) z (tied_items p is s.2 z b)
        ]

    pub tied_in : (p : Path) (i : ℕ) (ls : Lives) → SitsIn app p i ls → (z : Path × Inst) → Among z (insts (places_in p i ls)) → TiedIn (ties_in of_instance of_item p i ls) z
    tied_in p i no_lives s z m = absurd m
    tied_in p i (live_and l ls) s z m = elim (in_either z (places (at i ∷ p) l) (places_in p (suc i) ls) m) [
      | inl a ↦ at_left (ties of_instance of_item (at i ∷ p) l) (ties_in of_instance of_item p (suc i) ls) z (tied (at i ∷ p) l s.0 z a)
      | inr b ↦ at_right (ties of_instance of_item (at i ∷ p) l) (ties_in of_instance of_item p (suc i) ls) z (tied_in p (suc i) ls s.1 z b)
    ]

-- The cells of a field

head_same : {A : Type 0} (x y : A) (xs ys : List A) → ◌≡◌ {A = List A} (x ∷ xs) (y ∷ ys) → (x ≡ y) × (xs ≡ ys)
head_same x y xs ys e = (cc, cc)

member_field : (o : Option Plain) (m : Member) → (m ≡ field_member → ⊥) → field_or o m ≡ field_member → o ≡ None → ⊥
member_field None m d e f = d e
member_field (Some v) m d e f = cc

other_member : (o : Option Rattle.gl_ast.specs.Template.Expr) → getter_or_action o ≡ field_member → ⊥
other_member None e = cc
other_member (Some x) e = cc

-- a name that is there is found among the cells
cell_found : (x : Text) (cs : Names) (fs : List (Text × Plain)) → names_of cs ≡ names_of fs → (named x fs ≡ None → ⊥) → Among (x, unwrap_or (named x cs) 0) cs
cell_found x [] [] e d = d refl
cell_found x [] (f ∷ fs) e d = absurd cc
cell_found x (c ∷ cs) [] e d = absurd cc
cell_found x (c ∷ cs) (f ∷ fs) e d =
    let same = head_same c.0 f.0 (names_of cs) (names_of fs) e in
    by (bytes_eq x c.0) refl (λ k. cell_found x cs fs same.1 k) (λ k w. d (ap (λ n. if bytes_eq x n then Some f.1 else named x fs) (sym same.0) ∙ (ap (λ b. if b then Some f.1 else named x fs) k ∙ w))) where
      by : (b : Bool) → bytes_eq x c.0 ≡ b → ((named x fs ≡ None → ⊥) → Among (x, unwrap_or (named x cs) 0) cs) → (bytes_eq x c.0 ≡ false → named x fs ≡ None → ⊥)
          → Among (x, unwrap_or (if b then Some c.1 else named x cs) 0) (c ∷ cs)
      by true k rec g = inl (ap (λ n. (n, c.1)) (text_means x c.0 k))
      by false k rec g = inr (rec (g k))

in_cells : (p : Path) (c : Text × ℕ) (cs : Names) → Among c cs → Among (c.1, cell p c.0) (cell_ties p cs)
in_cells p c [] m = absurd m
in_cells p c (d ∷ cs) (inl e) = inl (ap (λ (y : Text × ℕ). (y.1, cell p y.0)) e)
in_cells p c (d ∷ cs) (inr m) = inr (in_cells p c cs m)

pub cell_tied : (app : App) (i : Inst) (x : Text) → names_of i.cells ≡ names_of (class_at app i.path).fields → member_of (class_at app i.path) x ≡ field_member → Among (cell_ref i x, cell i.path x) (cell_ties i.path i.cells)
cell_tied app i x e f =
    let c = class_at app i.path in
    in_cells i.path (x, cell_ref i x) i.cells (cell_found x i.cells c.fields e (member_field (named x c.fields) (getter_or_action (named x c.getters)) (other_member (named x c.getters)) f))

-- What the rows of cells are

abbrev pub RowOf : App → Store → (Id → Option Thing) → Path × Inst → Type 0
RowOf app τ look z = (z.0 ≡ z.1.path) × ((x : Text) → member_of (class_at app z.1.path) x ≡ field_member → look (ref (cell_ref z.1 x)) ≡ source_row (cell z.1.path x) (cell_value app τ z.1.path x))

root_rows : (app : App) (σ τ : Store) (look : Id → Option Thing) (m : ℕ) (l : Live) → RootStands app σ τ look m l → (z : Path × Inst) → Among z (insts (places [] l)) → RowOf app τ look z
root_rows app σ τ look (suc m) (component_live i made gm args None ls) s z w =
    let c = (class_at app []).template in
    let inside = cells_in app σ τ look m (max 0 (top made)) no_place (mscope i args [] mnothing) [] 0 c ls s.5 in
    let inside' = subst (λ q. Cells app σ τ look (λ r. times_in r ls) (λ r. rest_in r ls) (insts (places_in q 0 ls)) (λ ρ k. CellsHoldIn app ρ k ls)) (sym s.1) inside in
    let cs = component_cells app σ τ look i made [] (λ q. times_in q ls) (λ q. rest_in q ls) (insts (places_in i.path 0 ls)) (λ ρ k. CellsHoldIn app ρ k ls) s.0.0 (λ q u. absurd (omega (arith, u))) (λ x f. refl) s.3 inside' in
    cs.rows z w
root_rows app σ τ look zero (deep_live q) s z w = absurd w
root_rows app σ τ look _ _ s z w = absurd s

pub rows_of : (app : App) (σ τ : Store) (st : State) (l : Live) → StandsFor app σ τ st l → (z : Path × Inst) → Among z (insts (places [] l)) → RowOf app τ st.look z
rows_of app σ τ st l s z w = root_rows app σ τ st.look app.limit l s.stands z w

-- A row of a source, seen with other names, is numbered: so the name of its number is that source.
source_of : Source → Option Thing → Source
source_of x (Some (row z)) = by z.form where
  by : Form → Source
  by (source_form y u) = y
  by _ = x
source_of x _ = x

abbrev form_is_source : Form → Bool
form_is_source (source_form x v) = true
form_is_source _ = false

abbrev is_source : Option Thing → Bool
is_source (Some (row z)) = form_is_source z.form
is_source _ = false

no_source : (t : Option Thing) → is_source t ≡ false → (y : Source) (v : V) → t ≡ source_row y v → ⊥
no_source t e y v f = true≢false (sym (ap is_source f) ∙ e)

pub named_source : (f : Path → Path) (g : Source → Source) (n r : ℕ) (o : Option Thing) (y : Source) (v : V) → NumberedThing n r o → there_with f g o ≡ source_row y v → (g (number r) ≡ y) × (r < n)
unfolding source_of
named_source f g n r None y v t e = absurd (no_source None refl y v e)
named_source f g n r (Some (content c)) y v t e = absurd (no_source (Some (content c)) refl y v e)
named_source f g n r (Some (instance_row i)) y v t e = absurd (no_source (Some (instance_row i)) refl y v e)
named_source f g n r (Some block_row) y v t e = absurd (no_source (Some block_row) refl y v e)
named_source f g n r (Some (modifier_row i)) y v t e = absurd (no_source (there_with f g (Some (modifier_row i))) refl y v e)
named_source f g n r (Some (row z)) y v t e = by z.form t.0 e where
  by : (k : Form) → OwnSource n r k → there_with f g (Some (row (record { form = k; last = z.last }))) ≡ source_row y v → (g (number r) ≡ y) × (r < n)
  by (source_form x w) t e = (ap g (sym t.0) ∙ ap (source_of y) e, t.1)
  by (constant_form w) t e = absurd (no_source (there_with f g (Some (row (record { form = constant_form w; last = z.last })))) refl y v e)
  by (property_form q k) t e = absurd (no_source (there_with f g (Some (row (record { form = property_form q k; last = z.last })))) refl y v e)
  by (call_form k rs ns) t e = absurd (no_source (there_with f g (Some (row (record { form = call_form k rs ns; last = z.last })))) refl y v e)
  by (joined_form rs) t e = absurd (no_source (there_with f g (Some (row (record { form = joined_form rs; last = z.last })))) refl y v e)
  by (all_form rs) t e = absurd (no_source (there_with f g (Some (row (record { form = all_form rs; last = z.last })))) refl y v e)
