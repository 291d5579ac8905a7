-- Chains of mentions through names of getters: the function and the relation agree.
use Rattle.std.specs.Prelude.{if◌then◌else◌}
use Rattle.std.proofs.Common.{◌≡◌, List, [], ◌∷◌, ◌++◌, Bool, true, false, ◌&&◌, ◌||◌, map, flat_map, refl, ap, sym, ◌∙◌, subst, Option, Some, None, ◌⊎◌, inl, inr}
use Rattle.std.specs.Str.{bytes_eq}
use Rattle.std.proofs.lemmas.Slice.Eq.{bytes_eq-Decides}
use Rattle.gl_base.specs.Names.{named, has_text}
use Rattle.gl_base.specs.Texts.{Text}
use Rattle.gl_ast.specs.Template.{Expr, Body, end}
use Rattle.gl_meaning.specs.App.{Class}
use Rattle.gl_meaning.specs.Known.{mentions, Among, Leads, mention, onward, Reaches, Acyclic, Getter, IsFirstCycle}
use Rattle.gl_meaning.specs.Manifest.{ClassEntry, Manifest, class_of, classes_of}
use Rattle.gl_cycles.specs.Cycles.{getter, getters_in, IsCycleOf}
use Rattle.gl_cycles.specs.Through.{mentioned, leads_through, names_of, reaches_itself, first_name, or_next, cycle_of}

or_cases : (a b : Bool) → (a || b) ≡ true → (a ≡ true) ⊎ (b ≡ true)
or_cases true b h = inl refl
or_cases false b h = inr h

or_left : (a b : Bool) → a ≡ true → (a || b) ≡ true
or_left a b h = rw h refl

or_right : (a b : Bool) → b ≡ true → (a || b) ≡ true
or_right true b h = refl
or_right false b h = h

and_both : (a b : Bool) → (a && b) ≡ true → (a ≡ true) × (b ≡ true)
and_both true b h = (refl, h)
and_both false b h = absurd cc

and_of : (a b : Bool) → a ≡ true → b ≡ true → (a && b) ≡ true
and_of a b h k = rw h k

text_among : (n : Text) (ms : List Text) → has_text n ms ≡ true → Among n ms
text_among n [] h = absurd cc
text_among n (m ∷ ms) h = elim (or_cases (bytes_eq n m) (has_text n ms) h) [ inl e ↦ inl ((bytes_eq-Decides n m).0 e) | inr later ↦ inr (text_among n ms later) ]

among_text : (n : Text) (ms : List Text) → Among n ms → has_text n ms ≡ true
among_text n [] a = absurd a
among_text n (m ∷ ms) (inl same) = or_left (bytes_eq n m) (has_text n ms) ((bytes_eq-Decides n m).1 same)
among_text n (m ∷ ms) (inr later) = or_right (bytes_eq n m) (has_text n ms) (among_text n ms later)

named_step : (b : Bool) (n m : Text) (e f : Expr) (rest : Option Expr) (ms : List Text) → bytes_eq n m ≡ b → (rest ≡ Some e → Among n ms) → (if b then Some f else rest) ≡ Some e → Among n (m ∷ ms)
named_step true n m e f rest ms is later h = inl ((bytes_eq-Decides n m).0 is)
named_step false n m e f rest ms is later h = inr (later h)

named_among : (n : Text) (gs : List (Text × Expr)) (e : Expr) → named n gs ≡ Some e → Among n (names_of gs)
named_among n [] e h = absurd cc
named_among n (g ∷ gs) e h = named_step (bytes_eq n g.0) n g.0 e g.1 (named n gs) (names_of gs) refl (λ q. named_among n gs e q) h

module _ (c : Class) where
  mentioned_leads : (g x : Text) (o : Option Expr) → named g c.getters ≡ o → mentioned x o ≡ true → Leads c g x
  mentioned_leads g x None is h = absurd cc
  mentioned_leads g x (Some e) is h = mention is (text_among x (mentions e) h)

  through_leads : (ks : List Text) (g x : Text) → leads_through ks c.getters g x ≡ true → Leads c g x
  through_leads [] g x h = mentioned_leads g x (named g c.getters) refl h
  through_leads (k ∷ ks) g x h =
      elim (or_cases (leads_through ks c.getters g x) (leads_through ks c.getters g k && leads_through ks c.getters k x) h) [
        | inl a ↦ through_leads ks g x a
        | inr b ↦
            let p = and_both (leads_through ks c.getters g k) (leads_through ks c.getters k x) b in
            onward (through_leads ks g k p.0) (through_leads ks k x p.1)
      ]

  -- through no names in between, and so through any
  more_names : (ks : List Text) (g x : Text) → leads_through [] c.getters g x ≡ true → leads_through ks c.getters g x ≡ true
  more_names [] g x h = h
  more_names (k ∷ ks) g x h = or_left (leads_through ks c.getters g x) _ (more_names ks g x h)

  -- to the first name, without it in between
  to_first : (k : Text) (ks : List Text) (g : Text) → leads_through (k ∷ ks) c.getters g k ≡ true → leads_through ks c.getters g k ≡ true
  to_first k ks g h =
      elim (or_cases (leads_through ks c.getters g k) (leads_through ks c.getters g k && leads_through ks c.getters k k) h) [
        | inl a ↦ a
        | inr b ↦ (and_both (leads_through ks c.getters g k) (leads_through ks c.getters k k) b).0
      ]

  from_first : (k : Text) (ks : List Text) (x : Text) → leads_through (k ∷ ks) c.getters k x ≡ true → leads_through ks c.getters k x ≡ true
  from_first k ks x h =
      elim (or_cases (leads_through ks c.getters k x) (leads_through ks c.getters k k && leads_through ks c.getters k x) h) [
        | inl a ↦ a
        | inr b ↦ (and_both (leads_through ks c.getters k k) (leads_through ks c.getters k x) b).1
      ]

  by_first : (k : Text) (ks : List Text) (g x : Text) → leads_through ks c.getters g k ≡ true → leads_through ks c.getters k x ≡ true → leads_through (k ∷ ks) c.getters g x ≡ true
  by_first k ks g x h l = or_right (leads_through ks c.getters g x) _ (and_of (leads_through ks c.getters g k) (leads_through ks c.getters k x) h l)

  joins : (ks : List Text) (g m x : Text) → Among m ks → leads_through ks c.getters g m ≡ true → leads_through ks c.getters m x ≡ true → leads_through ks c.getters g x ≡ true
  joins [] g m x a h l = absurd a
  joins (k ∷ ks) g m x (inl same) h l =
      by_first k ks g x (to_first k ks g (subst (λ (y : Text). leads_through (k ∷ ks) c.getters g y ≡ true) same h)) (from_first k ks x (subst (λ (y : Text). leads_through (k ∷ ks) c.getters y x ≡ true) same l))
  joins (k ∷ ks) g m x (inr a) h l =
      elim (or_cases (leads_through ks c.getters g m) (leads_through ks c.getters g k && leads_through ks c.getters k m) h) [
        | inl p ↦ elim (or_cases (leads_through ks c.getters m x) (leads_through ks c.getters m k && leads_through ks c.getters k x) l) [
          | inl q ↦ or_left (leads_through ks c.getters g x) _ (joins ks g m x a p q)
          | inr q ↦
              let r = and_both (leads_through ks c.getters m k) (leads_through ks c.getters k x) q in
              by_first k ks g x (joins ks g m k a p r.0) r.1
        ]
        | inr p ↦
            let s = and_both (leads_through ks c.getters g k) (leads_through ks c.getters k m) p in
            elim (or_cases (leads_through ks c.getters m x) (leads_through ks c.getters m k && leads_through ks c.getters k x) l) [
              | inl q ↦ by_first k ks g x s.0 (joins ks k m x a s.1 q)
              | inr q ↦ by_first k ks g x s.0 (and_both (leads_through ks c.getters m k) (leads_through ks c.getters k x) q).1
            ]
      ]

  -- what leads on is a getter
  leads_named : (g x : Text) → Leads c g x → Among g (names_of c.getters)
  leads_named g x (mention {e = e} is a) = named_among g c.getters e is
  leads_named g x (onward {x = m} f h) = leads_named g m f

  leads_through_names : (g x : Text) → Leads c g x → leads_through (names_of c.getters) c.getters g x ≡ true
  leads_through_names g x (mention {e = e} is a) = more_names (names_of c.getters) g x (rw is (among_text x (mentions e) a))
  leads_through_names g x (onward {x = m} f h) =
      joins (names_of c.getters) g m x (leads_named m x h) (leads_through_names g m f) (leads_through_names m x h)

  pub reaches : (g : Text) → Reaches c g → reaches_itself c.getters g ≡ true
  reaches g r = leads_through_names g g r

  pub stays_away : (g : Text) → (Reaches c g → ⊥) → reaches_itself c.getters g ≡ false
  stays_away g never = decided (reaches_itself c.getters g) refl
    where
      decided : (b : Bool) → reaches_itself c.getters g ≡ b → reaches_itself c.getters g ≡ false
      decided true is = absurd (never (through_leads (names_of c.getters) g g is))
      decided false is = is

  -- the first of these getters that reaches itself, or one after them
  first_or_more : (gs : List (Text × Expr)) (more : List Getter) (h : Getter) → IsFirstCycle (map (λ (g : Text × Expr). getter c g.0) gs ++ more) h
      → ((n : Text) × (first_name c.getters (names_of gs) ≡ Some n) × (getter c n ≡ h)) ⊎ ((first_name c.getters (names_of gs) ≡ None) × IsFirstCycle more h)
  first_or_more [] more h first = inr (refl, first)
  first_or_more (g ∷ gs) more h (inl p) = inl (g.0, rw (reaches g.0 p.1) refl, p.0)
  first_or_more (g ∷ gs) more h (inr p) = elim (first_or_more gs more h p.1) [
    | inl q ↦ inl (q.0, rw (stays_away g.0 p.0) q.1, q.2)
    | inr q ↦ inr (rw (stays_away g.0 p.0) q.0, q.1)
  ]

  none_first : (gs : List (Text × Expr)) → Acyclic c → first_name c.getters (names_of gs) ≡ None
  none_first [] never = refl
  none_first (g ∷ gs) never = rw (stays_away g.0 (never g.0)) (none_first gs never)

some_cycle : (cs : List ClassEntry) (c : Class) (x y : Text) → c.name ≡ x → IsFirstCycle (flat_map getters_in (classes_of cs [])) (getter c y) → cycle_of cs ≡ Some (x, y)
some_cycle [] c x y is first = absurd first
some_cycle (d ∷ cs) c x y is first = elim (first_or_more (class_of d end) d.getters (flat_map getters_in (classes_of cs [])) (getter c y) first) [
  | inl q ↦
      let named : d.name ≡ x = ap (λ (g : Getter). g.of_class.name) q.2 ∙ is in
      let same : q.0 ≡ y = ap (λ (g : Getter). g.name) q.2 in
      rw (q.1, named, same) refl
  | inr q ↦ rw q.0 (some_cycle cs c x y is q.1)
]

no_cycle : (cs : List ClassEntry) → ((c : Class) → Among c (classes_of cs []) → Acyclic c) → cycle_of cs ≡ None
no_cycle [] never = refl
no_cycle (d ∷ cs) never = rw (none_first (class_of d end) d.getters (never (class_of d end) (inl refl))) (no_cycle cs (λ c a. never c (inr a)))

-- the answer of the relation is that of the function
pub is_cycle : (m : Manifest) (r : Option (Text × Text)) → IsCycleOf m r → r ≡ cycle_of m.classes
is_cycle m None h = sym (no_cycle m.classes (h []))
is_cycle m (Some a) h =
    let p = h [] in
    sym (some_cycle m.classes p.0 a.0 a.1 p.1 p.2)
