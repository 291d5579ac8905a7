-- The first getter that reaches itself, in a class and in classes.
use Rattle.std.proofs.Common.{◌≡◌, ℕ, zero, suc, ◌<◌, List, [], ◌∷◌, ◌++◌, map, flat_map, refl, ap, sym, ◌∙◌, subst, arith, Option, Some, None, option_map, slice_get, inl, inr}
use Rattle.std.proofs.lemmas.Option.{slice_get-map}
use Rattle.gl_base.specs.Texts.{Text}
use Rattle.gl_ast.specs.Template.{Expr, Body, end}
use Rattle.gl_meaning.specs.App.{Class}
use Rattle.gl_meaning.specs.Known.{Among, Getter, Reaches, Acyclic, IsFirstCycle}
use Rattle.gl_meaning.specs.Manifest.{ClassEntry, class_of, classes_of}
use Rattle.gl_cycles.specs.Cycles.{getter, getters_in, IsFirstIn}
use Rattle.gl_cycles.specs.Marks.{AreMentions}
use Rattle.gl_cycles.specs.Chains.{IsMarked, IsClosureOf}
use Rattle.gl_cycles.proofs.Reaching.{marked_reaches, unmarked}

first_at : (hs : List Getter) (i : ℕ) (h : Getter) → slice_get hs i ≡ Some h → Reaches h.of_class h.name → ((k : ℕ) (x : Getter) → k < i → slice_get hs k ≡ Some x → Reaches x.of_class x.name → ⊥) → IsFirstCycle hs h
first_at [] i h is reaches none = absurd cc
first_at (x ∷ xs) zero h is reaches none =
    let same : x ≡ h = cc in
    inl (same, subst (λ (g : Getter). Reaches g.of_class g.name) (sym same) reaches)
first_at (x ∷ xs) (suc i) h is reaches none =
    inr (none 0 x (omega arith) refl, first_at xs i h is reaches (λ k y below at. none (suc k) y (omega (arith, below)) at))

-- A getter of the class, in the list of them.
getter_at : (c : Class) (k : ℕ) (x : Getter) → slice_get (getters_in c) k ≡ Some x → (g : Text × Expr) × (slice_get c.getters k ≡ Some g) × (getter c g.0 ≡ x)
getter_at c k x h = seen (slice_get c.getters k) refl (sym (slice_get-map (λ (g : Text × Expr). getter c g.0) c.getters k) ∙ h)
  where
    seen : (o : Option (Text × Expr)) → slice_get c.getters k ≡ o → option_map (λ (g : Text × Expr). getter c g.0) o ≡ Some x → (g : Text × Expr) × (slice_get c.getters k ≡ Some g) × (getter c g.0 ≡ x)
    seen None is e = absurd cc
    seen (Some g) is e = (g, is, cc)

-- The first row with its own mark is that of the first getter of the class that reaches itself.
pub first_marked : (c : Class) (rows all : List ℕ) → AreMentions rows c.getters → IsClosureOf rows all → (i : ℕ) (g : Text × Expr) → slice_get c.getters i ≡ Some g → IsMarked all i i → ((k : ℕ) → k < i → IsMarked all k k → ⊥) → IsFirstIn c (Some g.0)
first_marked c rows all are closed i g is h none =
    let at : slice_get (getters_in c) i ≡ Some (getter c g.0) = slice_get-map (λ (x : Text × Expr). getter c x.0) c.getters i ∙ ap (option_map (λ (x : Text × Expr). getter c x.0)) is in
    first_at (getters_in c) i (getter c g.0) at (marked_reaches c rows are all closed i g is h)
    (λ k x below at_k reaches.
    let e = getter_at c k x at_k in
    unmarked c rows are all closed k e.0 e.1 (λ j within. none j (omega (arith, below, within))) (subst (λ (y : Getter). Reaches y.of_class y.name) (sym e.2) reaches))

-- Of two lists
first_in_front : (hs more : List Getter) (g : Getter) → IsFirstCycle hs g → IsFirstCycle (hs ++ more) g
first_in_front [] more g h = absurd h
first_in_front (x ∷ xs) more g (inl h) = inl h
first_in_front (x ∷ xs) more g (inr h) = inr (h.0, first_in_front xs more g h.1)

first_behind : (c : Class) (names : List (Text × Expr)) (more : List Getter) (g : Getter) → ((x : Text) → Reaches c x → ⊥) → IsFirstCycle more g → IsFirstCycle (map (λ (x : Text × Expr). getter c x.0) names ++ more) g
first_behind c [] more g none h = h
first_behind c (x ∷ xs) more g none h = inr (none x.0, first_behind c xs more g none h)

-- What the answer is for these classes, with these templates.
abbrev pub IsLeft : List ClassEntry → List Body → Option (Text × Text) → Type 0
IsLeft cs bs None = (c : Class) → Among c (classes_of cs bs) → Acyclic c
IsLeft cs bs (Some a) = (c : Class) × (c.name ≡ a.0) × IsFirstCycle (flat_map getters_in (classes_of cs bs)) (getter c a.1)

-- Of a class and the classes after it
abbrev IsLeftIn : List Class → Option (Text × Text) → Type 0
IsLeftIn ds None = (c : Class) → Among c ds → Acyclic c
IsLeftIn ds (Some a) = (c : Class) × (c.name ≡ a.0) × IsFirstCycle (flat_map getters_in ds) (getter c a.1)

behind : (d : Class) (ds : List Class) (o : Option (Text × Text)) → ((x : Text) → Reaches d x → ⊥) → IsLeftIn ds o → IsLeftIn (d ∷ ds) o
behind d ds None none rest = λ c among. elim among [
  | inl same ↦ subst (λ (k : Class). Acyclic k) (sym same) none
  | inr later ↦ rest c later
]
behind d ds (Some a) none rest = (rest.0, rest.1, first_behind d d.getters (flat_map getters_in ds) (getter rest.0 a.1) none rest.2)

-- A class whose getters don't reach themselves leaves the answer to the classes after it.
pub passed : (c : ClassEntry) (cs : List ClassEntry) (o : Option (Text × Text)) → ((d : Class) → d.getters ≡ c.getters → IsFirstIn d None) → ((bs : List Body) → IsLeft cs bs o) → (bs : List Body) → IsLeft (c ∷ cs) bs o
passed c cs None none rest [] = behind (class_of c end) (classes_of cs []) None (none (class_of c end) refl) (rest [])
passed c cs None none rest (b ∷ bs) = behind (class_of c b) (classes_of cs bs) None (none (class_of c b) refl) (rest bs)
passed c cs (Some a) none rest [] = behind (class_of c end) (classes_of cs []) (Some a) (none (class_of c end) refl) (rest [])
passed c cs (Some a) none rest (b ∷ bs) = behind (class_of c b) (classes_of cs bs) (Some a) (none (class_of c b) refl) (rest bs)

-- A class with such a getter has the answer.
pub found : (c : ClassEntry) (cs : List ClassEntry) (n : Text) → ((d : Class) → d.getters ≡ c.getters → IsFirstIn d (Some n)) → (bs : List Body) → IsLeft (c ∷ cs) bs (Some (c.name, n))
found c cs n first [] = (class_of c end, refl, first_in_front (getters_in (class_of c end)) (flat_map getters_in (classes_of cs [])) (getter (class_of c end) n) (first (class_of c end) refl))
found c cs n first (b ∷ bs) = (class_of c b, refl, first_in_front (getters_in (class_of c b)) (flat_map getters_in (classes_of cs bs)) (getter (class_of c b) n) (first (class_of c b) refl))
