-- Chains of marks are chains of mentions.
use Rattle.std.proofs.Common.{◌≡◌, ℕ, ◌≤◌, ◌<◌, List, [], ◌∷◌, length, refl, ap, sym, ◌∙◌, subst, Option, Some, None, slice_get, ◌⊎◌, inl, inr}
use Rattle.std.specs.Prelude.{IsTrue}
use Rattle.gl_base.specs.Texts.{Text}
use Rattle.gl_base.specs.Names.{named}
use Rattle.gl_ast.specs.Template.{Expr}
use Rattle.gl_meaning.specs.App.{Class}
use Rattle.gl_meaning.specs.Known.{mentions, Among, Leads, mention, onward, Reaches}
use Rattle.gl_cycles.specs.Marks.{Getters, has_mark, with_place, with_names, place, mentioned, AreMentions}
use Rattle.gl_cycles.specs.Chains.{IsMarked, Chain, link, joined, IsClosureOf}
use Rattle.gl_cycles.proofs.Bits.{none_marked, with_same, with_keeps, with_cases}
use Rattle.gl_cycles.proofs.Places.{placed, named_placed, place_before, place_below}

place_cases : (o : Option ℕ) (m j : ℕ) → IsTrue (has_mark (with_place m o) j) → IsTrue (has_mark m j) ⊎ (o ≡ Some j)
place_cases None m j h = inl h
place_cases (Some i) m j h = elim (with_cases m i j h) [ inl s ↦ inr (ap (λ (k : ℕ). Some k) (sym s)) | inr x ↦ inl x ]

place_keeps : (o : Option ℕ) (m j : ℕ) → IsTrue (has_mark m j) → IsTrue (has_mark (with_place m o) j)
place_keeps None m j h = h
place_keeps (Some i) m j h = with_keeps m i j h

-- a mark is an old one, or that of one of the names
names_cases : (gs : Getters) (m : ℕ) (ns : List Text) (j : ℕ) → IsTrue (has_mark (with_names gs m ns) j) → IsTrue (has_mark m j) ⊎ ((n : Text) × Among n ns × (place n gs ≡ Some j))
names_cases gs m [] j h = inl h
names_cases gs m (n ∷ ns) j h = elim (names_cases gs (with_place m (place n gs)) ns j h) [
  | inl x ↦ elim (place_cases (place n gs) m j x) [ inl y ↦ inl y | inr p ↦ inr (n, inl refl, p) ]
  | inr r ↦ inr (r.0, inr r.1, r.2)
]

names_keep : (gs : Getters) (m : ℕ) (ns : List Text) (j : ℕ) → IsTrue (has_mark m j) → IsTrue (has_mark (with_names gs m ns) j)
names_keep gs m [] j h = h
names_keep gs m (n ∷ ns) j h = names_keep gs (with_place m (place n gs)) ns j (place_keeps (place n gs) m j h)

names_have : (gs : Getters) (m : ℕ) (ns : List Text) (n : Text) (j : ℕ) → Among n ns → place n gs ≡ Some j → IsTrue (has_mark (with_names gs m ns) j)
names_have gs m [] n j a p = absurd a
names_have gs m (k ∷ ns) n j (inl same) p =
    names_keep gs (with_place m (place k gs)) ns j (subst (λ (o : Option ℕ). IsTrue (has_mark (with_place m o) j)) (sym p ∙ ap (λ (x : Text). place x gs) same) (with_same m j))
names_have gs m (k ∷ ns) n j (inr a) p = names_have gs (with_place m (place k gs)) ns n j a p

module _ (c : Class) (rows : List ℕ) (are : AreMentions rows c.getters) where
  -- a name stands at j, to which a getter at i leads
  abbrev Led : ℕ → ℕ → Type 0
  Led i j = (y : Text) × (place y c.getters ≡ Some j) × ((x : Text) → place x c.getters ≡ Some i → Leads c x y)

  mentions_at : (i : ℕ) (g : Text × Expr) (x : Text) → slice_get c.getters i ≡ Some g → place x c.getters ≡ Some i → named x c.getters ≡ Some g.1
  mentions_at i g x is p =
      let at = placed x c.getters i p in
      let same : (x, at.0) ≡ g = cc in
      at.2 ∙ ap (λ (k : Text × Expr). Some k.1) same

  marked_leads : (o : Option (Text × Expr)) (i j : ℕ) → slice_get c.getters i ≡ o → IsTrue (has_mark (mentioned c.getters o) j) → Led i j
  marked_leads None i j is h = absurd (none_marked j h)
  marked_leads (Some g) i j is h = elim (names_cases c.getters 0 (mentions g.1) j h) [
    | inl x ↦ absurd (none_marked j x)
    | inr r ↦ (r.0, r.2, λ x p. mention (mentions_at i g x is p) r.1)
  ]

  pub chain_leads : (i j : ℕ) → Chain rows i j → Led i j
  chain_leads i j (link h) = marked_leads (slice_get c.getters i) i j refl (subst (λ (m : ℕ). IsTrue (has_mark m j)) (are i) h)
  chain_leads i j (joined {k = k} f h) =
      let a = chain_leads i k f in
      let b = chain_leads k j h in
      (b.0, b.1, λ x p. onward (a.2 x p) (b.2 a.0 a.1))

  -- what leads on is a getter
  leads_getter : (x y : Text) → Leads c x y → (e : Expr) × (named x c.getters ≡ Some e)
  leads_getter x y (mention {e = e} h a) = (e, h)
  leads_getter x y (onward {x = z} f h) = leads_getter x z f

  pub leads_chain : (x y : Text) → Leads c x y → (i j : ℕ) → place x c.getters ≡ Some i → place y c.getters ≡ Some j → Chain rows i j
  leads_chain x y (mention {e = e} h a) i j p q =
      let at = placed x c.getters i p in
      let same : e ≡ at.0 = cc in
      let in_row : IsTrue (has_mark (with_names c.getters 0 (mentions at.0)) j) = names_have c.getters 0 (mentions at.0) y j (subst (λ (k : Expr). Among y (mentions k)) same a) q in
      link (subst (λ (m : ℕ). IsTrue (has_mark m j)) (sym (are i ∙ ap (mentioned c.getters) at.1)) in_row)
  leads_chain x y (onward {x = z} f h) i j p q =
      let g = leads_getter z y h in
      let k = named_placed z c.getters g.0 g.1 in
      joined (leads_chain x z f i k.0 p k.1) (leads_chain z y h k.0 j k.1 q)

  module _ (all : List ℕ) (closed : IsClosureOf rows all) where
    -- a getter whose row has its own mark reaches itself
    pub marked_reaches : (i : ℕ) (g : Text × Expr) → slice_get c.getters i ≡ Some g → IsMarked all i i → Reaches c g.0
    marked_reaches i g is h =
        let led = chain_leads i i ((closed i i).0 h) in
        let at = placed led.0 c.getters i led.1 in
        let same : (led.0, at.0) ≡ g = cc in
        subst (λ (k : Text × Expr). Reaches c k.0) same (led.2 led.0 led.1)

    -- where no row up to a getter's has its own mark, the getter doesn't reach itself
    pub unmarked : (i : ℕ) (g : Text × Expr) → slice_get c.getters i ≡ Some g → ((k : ℕ) → k ≤ i → IsMarked all k k → ⊥) → Reaches c g.0 → ⊥
    unmarked i g is none h =
        let at = place_before g.0 g.1 c.getters i is in
        none at.0 at.2 ((closed at.0 at.0).1 (leads_chain g.0 g.0 h at.0 at.0 at.1 at.1))

    pub none_reaches : ((k : ℕ) → k < length c.getters → IsMarked all k k → ⊥) → (x : Text) → Reaches c x → ⊥
    none_reaches none x h =
        let g = leads_getter x x h in
        let at = named_placed x c.getters g.0 g.1 in
        none at.0 (place_below x c.getters at.0 at.1) ((closed at.0 at.0).1 (leads_chain x x h at.0 at.0 at.1 at.1))
