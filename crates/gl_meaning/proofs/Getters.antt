-- Where no getter reaches itself, a getter is the value of its expression.
use Rattle.std.proofs.Common.{◌≡◌, ◌≤◌, ◌<◌, ◌+◌, ℕ, zero, suc, List, [], ◌∷◌, ◌++◌, length, Bool, true, false, Option, Some, None, refl, sym, ap, ap₂, ◌∙◌, subst, ◌⊎◌, inl, inr, arith}
use Rattle.std.specs.Prelude.{if◌then◌else◌}
use Rattle.std.specs.Str.{bytes_eq}
use Rattle.gl_base.specs.Names.{named}
use Rattle.gl_meaning.specs.Known.{mentions, all_mentions, named_mentions, Among, Leads, mention, onward, Acyclic, HasNoCycle}
use Rattle.gl_meaning.proofs.Equal.{text_means}
use Rattle.gl_base.specs.Texts.{Text}
use Rattle.gl_meaning.specs.App.{App, Class}
use Rattle.gl_meaning.specs.Eval
use Rattle.gl_meaning.specs.Path
use Rattle.gl_meaning.specs.Scope
use Rattle.gl_ast.specs.Template

among-left : (x : Text) (xs ys : List Text) → Among x xs → Among x (xs ++ ys)
among-left x [] ys m = absurd m
among-left x (z ∷ xs) ys (inl q) = inl q
among-left x (z ∷ xs) ys (inr m) = inr (among-left x xs ys m)

among-right : (x : Text) (xs ys : List Text) → Among x ys → Among x (xs ++ ys)
among-right x [] ys m = m
among-right x (z ∷ xs) ys m = inr (among-right x xs ys m)

-- a list of different names, each among others, is no longer than these
abbrev AllDifferent : List Text → Type 0
AllDifferent [] = Unit {0}
AllDifferent (x ∷ xs) = (Among x xs → ⊥) × AllDifferent xs

abbrev AllAmong : List Text → List Text → Type 0
AllAmong [] ns = Unit {0}
AllAmong (x ∷ xs) ns = Among x ns × AllAmong xs ns

without : (x : Text) (ns : List Text) → Among x ns → (ms : List Text) × (length ns ≡ suc (length ms)) × ((y : Text) → (y ≡ x → ⊥) → Among y ns → Among y ms)
without x [] m = absurd m
without x (n ∷ ns) (inl q) = (ns, refl, λ y h m. elim m [ inl o ↦ absurd (h (o ∙ sym q)) | inr o ↦ o ])
without x (n ∷ ns) (inr m) =
    let r = without x ns m in
    (n ∷ r.0, ap suc r.1, λ y h o. elim o [ inl a ↦ inl a | inr a ↦ inr (r.2 y h a) ])

keep-others : (x : Text) (xs ns ms : List Text) → (Among x xs → ⊥) → ((y : Text) → (y ≡ x → ⊥) → Among y ns → Among y ms) → AllAmong xs ns → AllAmong xs ms
keep-others x [] ns ms h k a = tt
keep-others x (y ∷ xs) ns ms h k a = (k y (λ q. h (inl (sym q))) a.0, keep-others x xs ns ms (λ m. h (inr m)) k a.1)

no-longer : (xs ns : List Text) → AllDifferent xs → AllAmong xs ns → length xs ≤ length ns
no-longer [] ns d a = omega arith
no-longer (x ∷ xs) ns d a =
    let r = without x ns a.0 in
    let h : length xs ≤ length r.0 = no-longer xs r.0 d.1 (keep-others x xs ns r.0 d.0 r.2 a.1) in
    let q : length ns ≡ suc (length r.0) = r.1 in
    omega arith

abbrev names : List (Text × Template.Expr) → List Text
names [] = []
names (g ∷ gs) = g.0 ∷ names gs

named-among : (x : Text) (gs : List (Text × Template.Expr)) (y : Template.Expr) → named x gs ≡ Some y → Among x (names gs)
named-among x [] y q = absurd cc
named-among x (g ∷ gs) y q = chosen (named-among x gs y) (bytes_eq x g.0) refl q where
  chosen : (named x gs ≡ Some y → Among x (names gs)) → (b : Bool) → bytes_eq x g.0 ≡ b → (if b then Some g.1 else named x gs) ≡ Some y → (x ≡ g.0) ⊎ Among x (names gs)
  chosen h true o q = inl (text_means x g.0 o)
  chosen h false o q = inr (h q)

names-length : (gs : List (Text × Template.Expr)) → length (names gs) ≡ length gs
names-length [] = refl
names-length (g ∷ gs) = ap suc (names-length gs)

module _ (app : App) (σ : Eval.Store) where
  -- two ways to evaluate getters that agree on what is mentioned
  abbrev AgreeOn : (Template.Expr → Scope.Pair) → (Template.Expr → Scope.Pair) → Path.Path → List Text → Type 0
  AgreeOn f g i xs = (x : Text) → Among x xs → (y : Template.Expr) → named x (Eval.class_at app i).getters ≡ Some y → f y ≡ g y

  module _ (f g : Template.Expr → Scope.Pair) (w : Scope.Scope) where
    member-agrees : (x : Text) (v : Option Template.Plain) (m : Option Template.Expr) → ((y : Template.Expr) → m ≡ Some y → f y ≡ g y) → Eval.member_pair app σ f w x (Eval.field_or v (Eval.getter_or_action m)) ≡ Eval.member_pair app σ g w x (Eval.field_or v (Eval.getter_or_action m))
    member-agrees x (Some v) m h = refl
    member-agrees x None (Some y) h = h y refl
    member-agrees x None None h = refl

    mutual
      eval-agrees : (x : Template.Expr) → AgreeOn f g (Scope.this_of w) (mentions x) → Eval.eval_in app σ f w x ≡ Eval.eval_in app σ g w x
      eval-agrees (Template.literal v) h = refl
      eval-agrees (Template.this x ks) h = ap (Eval.with_properties ks) (member-agrees x (named x (Eval.class_at app (Scope.this_of w)).fields) (named x (Eval.class_at app (Scope.this_of w)).getters) (h x (inl refl)))
      eval-agrees (Template.argument n ks) h = refl
      eval-agrees (Template.bare n ks) h = refl
      eval-agrees (Template.call n es ns) h = ap₂ (Eval.call_pair n) (all-agree es (λ x m. h x (among-left x (all_mentions es) (named_mentions ns) m))) (named-agree ns (λ x m. h x (among-right x (all_mentions es) (named_mentions ns) m)))
      eval-agrees (Template.cat es) h = ap Eval.cat_pair (all-agree es h)

      all-agree : (es : Template.Exprs) → AgreeOn f g (Scope.this_of w) (all_mentions es) → Eval.eval_all_in app σ f w es ≡ Eval.eval_all_in app σ g w es
      all-agree Template.no_exprs h = refl
      all-agree (Template.expr x es) h = ap₂ (λ y ys. y ∷ ys) (eval-agrees x (λ z m. h z (among-left z (mentions x) (all_mentions es) m))) (all-agree es (λ z m. h z (among-right z (mentions x) (all_mentions es) m)))

      named-agree : (ns : Template.NamedExprs) → AgreeOn f g (Scope.this_of w) (named_mentions ns) → Eval.eval_named_in app σ f w ns ≡ Eval.eval_named_in app σ g w ns
      named-agree Template.no_named h = refl
      named-agree (Template.named_expr n x ns) h = ap₂ (λ y ys. (n, y) ∷ ys) (eval-agrees x (λ z m. h z (among-left z (mentions x) (named_mentions ns) m))) (named-agree ns (λ z m. h z (among-right z (mentions x) (named_mentions ns) m)))

  -- each of these getters leads to each member that the expression mentions
  abbrev LeadTo : Class → List Text → List Text → Type 0
  LeadTo c [] xs = Unit {0}
  LeadTo c (u ∷ us) xs = ((x : Text) → Among x xs → Leads c u x) × LeadTo c us xs

  lead-on : (c : Class) (us : List Text) (x : Text) (y : Template.Expr) (xs : List Text) → named x c.getters ≡ Some y → Among x xs → LeadTo c us xs → LeadTo c us (mentions y)
  lead-on c [] x y xs q m h = tt
  lead-on c (u ∷ us) x y xs q m h = (λ z o. onward (h.0 x m) (mention q o), lead-on c us x y xs q m h.1)

  lead-apart : (c : Class) (us : List Text) (x : Text) (xs : List Text) → Acyclic c → Among x xs → LeadTo c us xs → Among x us → ⊥
  lead-apart c [] x xs a m h o = o
  lead-apart c (u ∷ us) x xs a m h (inl q) = a u (subst (λ z. Leads c u z) q (h.0 x m))
  lead-apart c (u ∷ us) x xs a m h (inr o) = lead-apart c us x xs a m h.1 o

  -- one level more changes nothing, where the levels and the getters above are more than all getters
  deep-enough : (n : ℕ) (i : Path.Path) (a : Scope.NamedPairs) (us : List Text) (x : Template.Expr) → let c = Eval.class_at app i in Acyclic c → AllDifferent us → AllAmong us (names c.getters) → LeadTo c us (mentions x)
      → length c.getters < length us + n → Eval.eval_deep n app σ (Scope.scope i a [] Scope.nothing_passed) x ≡ Eval.eval_deep (suc n) app σ (Scope.scope i a [] Scope.nothing_passed) x
  deep-enough zero i a us x k d m l h =
      let c = Eval.class_at app i in
      let g : length us ≤ length (names c.getters) = no-longer us (names c.getters) d m in
      let o : length (names c.getters) ≡ length c.getters = names-length c.getters in
      absurd (omega arith)
  deep-enough (suc n) i a us x k d m l h =
      let c = Eval.class_at app i in
      eval-agrees _ _ (Scope.scope i a [] Scope.nothing_passed) x
      (λ z o y q. deep-enough n i a (z ∷ us) y k (lead-apart c us z (mentions x) k o l, d) (named-among z c.getters y q, m) ((λ v u. mention q u), lead-on c us z y (mentions x) q o l) (omega arith))

  -- a getter is the value of its expression, with this `this` and these arguments, without locals
  getter-value : (w : Scope.Scope) (g : Text) (ks : List Text) (x : Template.Expr) → let c = Eval.class_at app (Scope.this_of w) in Acyclic c → named g c.fields ≡ None → named g c.getters ≡ Some x
      → Eval.eval app σ w (Template.this g ks) ≡ Eval.with_properties ks (Eval.eval app σ (Scope.own_scope w) x)
  getter-value (Scope.scope i a l v) g ks x k f q =
      let c = Eval.class_at app i in
      let n = length c.getters in
      ap (λ m. Eval.with_properties ks (Eval.member_pair app σ (Eval.eval_deep n app σ (Scope.scope i a [] Scope.nothing_passed)) (Scope.scope i a l v) g m)) (ap₂ (λ y z. Eval.field_or y (Eval.getter_or_action z)) f q)
      ∙ ap (Eval.with_properties ks) (deep-enough n i a (g ∷ []) x k ((λ m. m), tt) (named-among g c.getters x q, tt) ((λ z m. mention q m), tt) (omega arith))

-- no getter of no class reaches itself
no-leads : {g x : Text} → Leads Eval.no_class g x → ⊥
no-leads (mention q m) = cc
no-leads (onward a b) = no-leads a

module _ (app : App) (h : HasNoCycle app) where
  named-acyclic : (n : Text) (cs : List Class) → ((c : Class) → Among c cs → Acyclic c) → Acyclic (Eval.class_named n cs)
  named-acyclic n [] k = λ g l. no-leads l
  named-acyclic n (c ∷ cs) k = chosen (bytes_eq n c.name) (named-acyclic n cs (λ d m. k d (inr m))) where
    chosen : (b : Bool) → Acyclic (Eval.class_named n cs) → Acyclic (if b then c else Eval.class_named n cs)
    chosen true r = k c (inl refl)
    chosen false r = r

  class-acyclic : (i : Path.Path) → Acyclic (Eval.class_at app i)
  class-acyclic [] = named-acyclic app.root app.classes h
  class-acyclic (Path.into c ∷ i) = named-acyclic c app.classes h
  class-acyclic (Path.at n ∷ i) = λ g l. no-leads l
  class-acyclic (Path.main ∷ i) = λ g l. no-leads l
  class-acyclic (Path.otherwise ∷ i) = λ g l. no-leads l
  class-acyclic (Path.items ∷ i) = λ g l. no-leads l
  class-acyclic (Path.item k n ∷ i) = λ g l. no-leads l
  class-acyclic (Path.slot n ∷ i) = λ g l. no-leads l
  class-acyclic (Path.empty ∷ i) = λ g l. no-leads l
  class-acyclic (Path.attribute_at n ∷ i) = λ g l. no-leads l
  class-acyclic (Path.modifier_at n ∷ i) = λ g l. no-leads l

-- a member that is a getter is no field, and has that expression
expression-or : Template.Expr → Eval.Member → Template.Expr
expression-or x (Eval.getter_member y) = y
expression-or x _ = x

is-getter : (f : Option Template.Plain) (o : Option Template.Expr) (x : Template.Expr) → Eval.field_or f (Eval.getter_or_action o) ≡ Eval.getter_member x → (f ≡ None) × (o ≡ Some x)
unfolding expression-or
is-getter (Some v) o x q = absurd cc
is-getter None None x q = absurd cc
is-getter None (Some y) x q = (refl, ap (λ m. Some (expression-or y m)) q)

pub getter_value : (app : App) (σ : Eval.Store) (w : Scope.Scope) (g : Text) (ks : List Text) (x : Template.Expr) → HasNoCycle app → Eval.member_of (Eval.class_at app (Scope.this_of w)) g ≡ Eval.getter_member x
    → Eval.eval app σ w (Template.this g ks) ≡ Eval.with_properties ks (Eval.eval app σ (Scope.own_scope w) x)
getter_value app σ w g ks x h q =
    let c = Eval.class_at app (Scope.this_of w) in
    let is = is-getter (named g c.fields) (named g c.getters) x q in
    getter-value app σ w g ks x (class-acyclic app h (Scope.this_of w)) is.0 is.1
