-- Each source of a position stands at or above it, and each owner of an action in an argument above the instance.
use Rattle.gl_meaning.specs.Laws.{Within, IsAbove, Owners, OwnersAll, OwnersMembers, Sources, PairIn, PairsIn, NamesIn, AtOrAbove, AboveOf, ReadsAbove, AllReadAbove}
use Rattle.std.proofs.Common.{◌≡◌, ℕ, zero, suc, List, [], ◌∷◌, ◌++◌, map, Bool, true, false, Option, Some, None, sym, subst, cond, inl, inr}
use Rattle.std.specs.Prelude.{if◌then◌else◌, filter, codes}
use Rattle.std.specs.Str.{bytes_eq}
use Rattle.std.specs.List.{cons_option}
use Rattle.gl_meaning.proofs.Under.{in_join, within_itself, in_comment, in-forest-append}
use Rattle.gl_base.specs.Texts.{Text}
use Rattle.gl_meaning.specs.App.{App}
use Rattle.gl_meaning.proofs.Reach
use Rattle.gl_meaning.specs.Eval
use Rattle.gl_meaning.specs.Parts
use Rattle.gl_meaning.specs.Path
use Rattle.gl_meaning.specs.Render
use Rattle.gl_meaning.specs.Scope
use Rattle.gl_ast.specs.Template
use Rattle.gl_value.specs.Value

within-through : (i j k : Path.Path) → Within i j → Within j k → Within i k
within-through i j [] a b = subst (λ z. Within i z) b a
within-through i j (l ∷ k) a (inl q) = subst (λ z. Within i z) q a
within-through i j (l ∷ k) a (inr b) = inr (within-through i j k a b)

strictly-within : (k i : Path.Path) → IsAbove k i → Within k i
strictly-within k [] a = absurd a
strictly-within k (l ∷ i) a = inr a

module _ (P Q : Path.Path → Type 0) (h : (i : Path.Path) → P i → Q i) where
  mutual
    pub owners_more : (x : Path.V) → Owners P x → Owners Q x
    owners_more Value.undefined a = tt
    owners_more Value.null a = tt
    owners_more (Value.boolean b) a = tt
    owners_more (Value.integer z) a = tt
    owners_more (Value.text x) a = tt
    owners_more (Value.list vs) a = owners_more-all vs a
    owners_more (Value.pairs ms) a = owners_more-members ms a
    owners_more (Value.action i n vs) a = (h i a.0, owners_more-all vs a.1)

    owners_more-all : (vs : Value.Values Path.Path) → OwnersAll P vs → OwnersAll Q vs
    owners_more-all Value.no_values a = tt
    owners_more-all (Value.value x vs) a = (owners_more x a.0, owners_more-all vs a.1)

    owners_more-members : (ms : Value.Members Path.Path) → OwnersMembers P ms → OwnersMembers Q ms
    owners_more-members Value.no_members a = tt
    owners_more-members (Value.member n x ms) a = (owners_more x a.0, owners_more-members ms a.1)

  sources-more : (xs : List Scope.Source) → Sources P xs → Sources Q xs
  sources-more [] a = tt
  sources-more (Scope.cell i x ∷ xs) a = (h i a.0, sources-more xs a.1)
  sources-more (Scope.item_value i ∷ xs) a = (h i a.0, sources-more xs a.1)
  sources-more (Scope.item_index i ∷ xs) a = (h i a.0, sources-more xs a.1)

  pair-more : (x : Scope.Pair) → PairIn P x → PairIn Q x
  pair-more x a = (sources-more x.sources a.0, owners_more x.value a.1)

  pairs-more : (xs : List Scope.Pair) → PairsIn P xs → PairsIn Q xs
  pairs-more [] a = tt
  pairs-more (x ∷ xs) a = (pair-more x a.0, pairs-more xs a.1)

  names-more : (xs : Scope.NamedPairs) → NamesIn P xs → NamesIn Q xs
  names-more [] a = tt
  names-more (x ∷ xs) a = (pair-more x.1 a.0, names-more xs a.1)

-- a scope that is used at the place j
abbrev mutual
  pub GoodScope : Path.Path → Scope.Scope → Type 0
  GoodScope j (Scope.scope i a l w) = Within i j × NamesIn (AboveOf i) a × NamesIn (AtOrAbove j) l × GoodPassed i w

  pub GoodPassed : Path.Path → Scope.Passed → Type 0
  GoodPassed i Scope.nothing_passed = Unit {0}
  GoodPassed i (Scope.passed ps bs w) = GoodScope i w

good-below : (j k : Path.Path) (w : Scope.Scope) → Within j k → GoodScope j w → GoodScope k w
good-below j k (Scope.scope i a l w) h g = (within-through i j k g.0 h, g.1, names-more (AtOrAbove j) (AtOrAbove k) (λ m n. within-through m j k n h) l g.2, g.3)

good-this : (j : Path.Path) (w : Scope.Scope) → GoodScope j w → Within (Scope.this_of w) j
good-this j (Scope.scope i a l w) g = g.0

good-arguments : (j : Path.Path) (w : Scope.Scope) → GoodScope j w → NamesIn (AtOrAbove j) (Scope.arguments_of w)
good-arguments j (Scope.scope i a l w) g = names-more (AboveOf i) (AtOrAbove j) (λ m n. within-through m i j (strictly-within m i n) g.0) a g.1

good-locals : (j : Path.Path) (w : Scope.Scope) → GoodScope j w → NamesIn (AtOrAbove j) (Scope.locals_of w)
good-locals j (Scope.scope i a l w) g = g.2

names-append : (P : Path.Path → Type 0) (xs ys : Scope.NamedPairs) → NamesIn P xs → NamesIn P ys → NamesIn P (xs ++ ys)
names-append P [] ys a b = b
names-append P (x ∷ xs) ys a b = (a.0, names-append P xs ys a.1 b)

bind-in : (P : Path.Path → Type 0) (ns : List Text) (xs : List Scope.Pair) → PairsIn P xs → NamesIn P (Scope.bind ns xs)
bind-in P [] xs a = tt
bind-in P (n ∷ ns) [] a = ((tt, tt), bind-in P ns [] tt)
bind-in P (n ∷ ns) (x ∷ xs) a = (a.0, bind-in P ns xs a.1)

good-with : (j : Path.Path) (w : Scope.Scope) (m : Scope.NamedPairs) → GoodScope j w → NamesIn (AtOrAbove j) m → GoodScope j (Scope.with_locals m w)
good-with j (Scope.scope i a l w) m g h = (g.0, g.1, names-append (AtOrAbove j) l m g.2 h, g.3)

good-by : {x y : Render.Piece} → x ≡ y → ReadsAbove y → ReadsAbove x
good-by q g = subst ReadsAbove (sym q) g

good-join : (f g : Render.Forest) → AllReadAbove f → AllReadAbove g → AllReadAbove (Render.join f g)
good-join f g a b x m = elim (in_join x f g m) [ inl k ↦ a x k | inr k ↦ b x k ]

good-comment : (i : Path.Path) (f : Render.Forest) → AllReadAbove f → AllReadAbove (Render.or_comment i f)
good-comment i f a x m = elim (in_comment x i f m) [ inl k ↦ a x k | inr q ↦ good-by q tt ]

good-region : (i : Path.Path) (f : Render.Forest) → AllReadAbove f → AllReadAbove (Render.region_at i f)
good-region i f a x (inl (inl q)) = good-by q tt
good-region i f a x (inl (inr m)) = good-comment i f a x m
good-region i f a x (inr m) = absurd m

good-position : (i : Path.Path) (vs : List Scope.Pair) (f : Render.Forest) → PairsIn (AtOrAbove i) vs → AllReadAbove f → AllReadAbove (Render.piece (Render.position i vs) f)
good-position i vs f h a x (inl q) = good-by q h
good-position i vs f h a x (inr m) = a x m

module _ (app : App) (σ : Eval.Store) (cells : (P : Path.Path → Type 0) (i : Path.Path) (x : Text) → Owners P (Eval.cell_value app σ i x)) where
  eval-good : (j : Path.Path) (w : Scope.Scope) → GoodScope j w → (x : Template.Expr) → PairIn (AtOrAbove j) (Eval.eval app σ w x)
  eval-good j w g x = Reach.eval_reach (AtOrAbove j) app σ (cells (AtOrAbove j)) w (good-this j w g) (good-arguments j w g) (good-locals j w g) x

  all-good : (j : Path.Path) (w : Scope.Scope) → GoodScope j w → (es : Template.Exprs) → PairsIn (AtOrAbove j) (Eval.eval_all app σ w es)
  all-good j w g es = Reach.eval_all_reach (AtOrAbove j) app σ (cells (AtOrAbove j)) w (good-this j w g) (good-arguments j w g) (good-locals j w g) es

  value-good : (j : Path.Path) (w : Scope.Scope) → GoodScope j w → (x : Template.AttrValue) → PairIn (AtOrAbove j) (Eval.eval_value app σ w x)
  value-good j w g (Template.fixed x) = (tt, tt)
  value-good j w g (Template.live x) = eval-good j w g x

  given-good : (j : Path.Path) (w : Scope.Scope) → GoodScope j w → (gs : List (Text × Template.AttrValue)) → NamesIn (AtOrAbove j) (Eval.eval_given app σ w gs)
  given-good j w g [] = tt
  given-good j w g (x ∷ gs) = (value-good j w g x.1, given-good j w g gs)

  -- items: the owners in their values
  abbrev EntriesIn : Path.Path → List Render.Entry → Type 0
  EntriesIn j [] = Unit {0}
  EntriesIn j (x ∷ xs) = Owners (AtOrAbove j) x.value × EntriesIn j xs

  entries-in : (j : Path.Path) (key : Text) (n : ℕ) (before : List Template.Plain) (vs : Value.Values Path.Path) → OwnersAll (AtOrAbove j) vs → EntriesIn j (Render.entries key n before vs)
  entries-in j key n before Value.no_values a = tt
  entries-in j key n before (Value.value x vs) a = (a.0, entries-in j key (suc n) _ vs a.1)

  listed-in : (P : Path.Path → Type 0) (x : Path.V) → Owners P x → OwnersAll P (Render.values_listed x)
  listed-in P (Value.list vs) a = a
  listed-in P Value.undefined a = tt
  listed-in P Value.null a = tt
  listed-in P (Value.boolean b) a = tt
  listed-in P (Value.integer z) a = tt
  listed-in P (Value.text x) a = tt
  listed-in P (Value.pairs ms) a = tt
  listed-in P (Value.action i n vs) a = tt

  entry-pairs-in : (j : Path.Path) (l : Path.PathStep) (x : Render.Entry) → Owners (AtOrAbove j) x.value → PairsIn (AtOrAbove (l ∷ Path.items ∷ j)) (Render.entry_pairs (l ∷ Path.items ∷ j) x)
  entry-pairs-in j l x a =
      let here = within_itself (l ∷ Path.items ∷ j) in
      (((here, tt), owners_more (AtOrAbove j) (AtOrAbove (l ∷ Path.items ∷ j)) (λ m n. inr (inr n)) x.value a), (((here, tt), tt), tt))

  good-entries : (one : Path.Path → Render.Entry → Render.Forest) (j : Path.Path) → ((l : Path.PathStep) (x : Render.Entry) → Owners (AtOrAbove j) x.value → AllReadAbove (one (l ∷ Path.items ∷ j) x)) → (xs : List Render.Entry) → EntriesIn j xs
      → AllReadAbove (Render.render_entries one (Path.items ∷ j) xs)
  good-entries one j h [] a x m = absurd m
  good-entries one j h (z ∷ zs) a x (inl (inl q)) = good-by q tt
  good-entries one j h (z ∷ zs) a x (inl (inr m)) = good-comment _ _ (h (Path.item z.key z.occurrence) z a.0) x m
  good-entries one j h (z ∷ zs) a x (inr m) = good-entries one j h zs a.1 x m

  good-items : (j : Path.Path) (vs : Value.Values Path.Path) (f : Value.Values Path.Path → Render.Forest) (other : Render.Forest) → OwnersAll (AtOrAbove j) vs → ((vs : Value.Values Path.Path) → OwnersAll (AtOrAbove j) vs → AllReadAbove (f vs)) → AllReadAbove other
      → AllReadAbove (Render.items_or_else j vs f other)
  good-items j Value.no_values f other a h k = good-region (Path.otherwise ∷ j) other k
  good-items j (Value.value y vs) f other a h k = λ x m. elim m [ inl n ↦ elim n [ inl q ↦ good-by q tt | inr l ↦ h (Value.value y vs) a x l ] | inr n ↦ absurd n ]

  abbrev GoodComponents : Render.Components → Type 0
  GoodComponents d = (i : Path.Path) (gs : Scope.NamedPairs) (w : Scope.Passed) → NamesIn (AboveOf i) gs → GoodPassed i w → AllReadAbove (d i gs w)

  -- above: the instance to which the block was passed stands at or above the place of the `yield`
  abbrev GoodYields : Path.Path → Render.Yields → Type 0
  GoodYields i y = (n : Text) (vs : List Scope.Pair) (j : Path.Path) → Within i j → PairsIn (AtOrAbove j) vs → AllReadAbove (y n vs j)

  good-if : (i : Path.Path) (b : Bool) (f g : Render.Forest) → AllReadAbove f → AllReadAbove g → AllReadAbove (if b then Render.region_at (Path.main ∷ i) f else Render.region_at (Path.otherwise ∷ i) g)
  good-if i true f g a c = good-region (Path.main ∷ i) f a
  good-if i false f g a c = good-region (Path.otherwise ∷ i) g c

  -- the parts of an element
  abbrev GoodValues : Path.Path → List (Parts.WrittenValue Scope.Scope) → Type 0
  GoodValues i [] = Unit {0}
  GoodValues i (w ∷ ws) = GoodScope i w.by × GoodValues i ws

  abbrev GoodModifiers : Path.Path → List (Parts.WrittenModifier Scope.Scope) → Type 0
  GoodModifiers i [] = Unit {0}
  GoodModifiers i (w ∷ ws) = GoodScope i w.by × GoodModifiers i ws

  abbrev GoodWritten : Path.Path → List (Parts.Written Scope.Scope) → Type 0
  GoodWritten i [] = Unit {0}
  GoodWritten i (w ∷ ws) = GoodScope i w.by × GoodWritten i ws

  good-filter : (i : Path.Path) (test : (Parts.WrittenValue Scope.Scope) → Bool) (ws : List (Parts.WrittenValue Scope.Scope)) → GoodValues i ws → GoodValues i (filter test ws)
  good-filter i test [] a = tt
  good-filter i test (w ∷ ws) a = elim (test w) as (λ b. GoodValues i (cond b (w ∷ filter test ws) (filter test ws))) [ true ↦ (a.0, good-filter i test ws a.1) | false ↦ good-filter i test ws a.1 ]

  good-last : (i : Path.Path) (ws : List (Parts.WrittenValue Scope.Scope)) → GoodValues i ws → GoodValues i (Parts.last_only ws)
  good-last i [] a = tt
  good-last i (w ∷ []) a = a
  good-last i (w ∷ z ∷ ws) a = good-last i (z ∷ ws) a.1

  good-taken : (i : Path.Path) (n : Text) (ws : List (Parts.WrittenValue Scope.Scope)) → GoodValues i ws → GoodValues i (Parts.taken_values n ws)
  good-taken i n ws a =
      let group = filter (λ w. bytes_eq n w.name) ws in
      let h : GoodValues i group = good-filter i _ ws a in
      elim (bytes_eq n (codes "class")) as (λ b. GoodValues i (if b then group else Parts.last_only group)) [ true ↦ h | false ↦ good-last i group h ]

  values-good : (i : Path.Path) (ws : List (Parts.WrittenValue Scope.Scope)) → GoodValues i ws → PairsIn (AtOrAbove i) (map (λ w. Eval.eval_value app σ w.by w.value) ws)
  values-good i [] a = tt
  values-good i (w ∷ ws) a = (value-good i w.by a.0 w.value, values-good i ws a.1)

  good-attribute : (i : Path.Path) (b : Scope.Scope) (q : Template.Part) → GoodScope i b → (ws : List (Parts.WrittenValue Scope.Scope)) → GoodValues i ws → GoodValues i (cons_option (Parts.attribute_in b q) ws)
  good-attribute i b (Template.attribute n z) a ws h = (a, h)
  good-attribute i b (Template.modifier n es ns) a ws h = h
  good-attribute i b Template.spread a ws h = h

  good-attributes : (i : Path.Path) (ws : List (Parts.Written Scope.Scope)) → GoodWritten i ws → GoodValues i (Parts.attributes_in ws)
  good-attributes i [] a = tt
  good-attributes i (w ∷ ws) a = good-attribute i w.by w.part a.0 (Parts.attributes_in ws) (good-attributes i ws a.1)

  good-modifier : (i : Path.Path) (b : Scope.Scope) (q : Template.Part) → GoodScope i b → (ws : List (Parts.WrittenModifier Scope.Scope)) → GoodModifiers i ws → GoodModifiers i (cons_option (Parts.modifier_in b q) ws)
  good-modifier i b (Template.attribute n z) a ws h = h
  good-modifier i b (Template.modifier n es ns) a ws h = (a, h)
  good-modifier i b Template.spread a ws h = h

  good-modifiers : (i : Path.Path) (ws : List (Parts.Written Scope.Scope)) → GoodWritten i ws → GoodModifiers i (Parts.modifiers_in ws)
  good-modifiers i [] a = tt
  good-modifiers i (w ∷ ws) a = good-modifier i w.by w.part a.0 (Parts.modifiers_in ws) (good-modifiers i ws a.1)

  written-append : (i : Path.Path) (ws zs : List (Parts.Written Scope.Scope)) → GoodWritten i ws → GoodWritten i zs → GoodWritten i (ws ++ zs)
  written-append i [] zs a b = b
  written-append i (w ∷ ws) zs a b = (a.0, written-append i ws zs a.1 b)

  good-spread : (i : Path.Path) (for : List (Parts.Written Scope.Scope)) (w : Scope.Scope) (ps : List Template.Part) → GoodWritten i for → GoodScope i w → GoodWritten i (Parts.spread_in for w ps)
  good-spread i for w [] a b = tt
  good-spread i for w (Template.spread ∷ ps) a b = written-append i for _ a (good-spread i for w ps a b)
  good-spread i for w (Template.attribute n z ∷ ps) a b = (b, good-spread i for w ps a b)
  good-spread i for w (Template.modifier n es ns ∷ ps) a b = (b, good-spread i for w ps a b)

  good-passed : (j : Path.Path) (w : Scope.Passed) (i : Path.Path) → Within j i → GoodPassed j w → GoodWritten i (Parts.passed_parts w)
  good-passed j Scope.nothing_passed i u a = tt
  good-passed j (Scope.passed ps bs (Scope.scope k b l w)) i u a =
      good-spread i (Parts.passed_parts w) (Scope.scope k b l w) ps (good-passed k w i (within-through k j i a.0 u) a.3) (good-below j i (Scope.scope k b l w) u a)

  good-written : (i : Path.Path) (w : Scope.Scope) (ps : List Template.Part) → GoodScope i w → GoodWritten i (Parts.written_parts w ps)
  good-written i (Scope.scope k b l w) ps a = good-spread i (Parts.passed_parts w) (Scope.scope k b l w) ps (good-passed k w i a.0 a.3) a

  pairs-append : (P : Path.Path → Type 0) (xs ys : List Scope.Pair) → PairsIn P xs → PairsIn P ys → PairsIn P (xs ++ ys)
  pairs-append P [] ys a b = b
  pairs-append P (x ∷ xs) ys a b = (a.0, pairs-append P xs ys a.1 b)

  names-pairs : (P : Path.Path → Type 0) (xs : Scope.NamedPairs) → NamesIn P xs → PairsIn P (map (λ n. n.1) xs)
  names-pairs P [] a = tt
  names-pairs P (x ∷ xs) a = (a.0, names-pairs P xs a.1)

  named-good : (j : Path.Path) (w : Scope.Scope) → GoodScope j w → (ns : Template.NamedExprs) → NamesIn (AtOrAbove j) (Eval.eval_named app σ w ns)
  named-good j w g ns = Reach.eval_named_reach (AtOrAbove j) app σ (cells (AtOrAbove j)) w (good-this j w g) (good-arguments j w g) (good-locals j w g) ns

  good-attr-positions : (i : Path.Path) (pairs : Text → List Scope.Pair) → ((n : Text) → PairsIn (AtOrAbove i) (pairs n)) → (ns : List Text) → AllReadAbove (Render.forest_of (map (λ n. Render.position (Path.attribute_at n ∷ i) (pairs n)) ns))
  good-attr-positions i pairs h [] x m = absurd m
  good-attr-positions i pairs h (n ∷ ns) x (inl q) = good-by q (pairs-more (AtOrAbove i) (AtOrAbove (Path.attribute_at n ∷ i)) (λ k a. inr a) (pairs n) (h n))
  good-attr-positions i pairs h (n ∷ ns) x (inr m) = good-attr-positions i pairs h ns x m

  good-modifier-positions : (i : Path.Path) (n : ℕ) (ws : List (Parts.WrittenModifier Scope.Scope)) → GoodModifiers i ws → AllReadAbove (Render.forest_of (Render.modifier_positions (Parts.modifiers_of app σ i n ws)))
  good-modifier-positions i n [] a x m = absurd m
  good-modifier-positions i n (w ∷ ws) a x (inl q) =
      good-by q (pairs-append (AtOrAbove (Path.modifier_at n ∷ i)) (Eval.eval_all app σ w.by w.args) _
      (pairs-more (AtOrAbove i) (AtOrAbove (Path.modifier_at n ∷ i)) (λ k b. inr b) _ (all-good i w.by a.0 w.args))
      (names-pairs (AtOrAbove (Path.modifier_at n ∷ i)) (Eval.eval_named app σ w.by w.names) (names-more (AtOrAbove i) (AtOrAbove (Path.modifier_at n ∷ i)) (λ k b. inr b) _ (named-good i w.by a.0 w.names))))
  good-modifier-positions i n (w ∷ ws) a x (inr m) = good-modifier-positions i (suc n) ws a.1 x m

  good-element : (i : Path.Path) (tag : Text) (ws : List (Parts.Written Scope.Scope)) (f : Render.Forest) → GoodWritten i ws → AllReadAbove f → AllReadAbove (Render.element_of app σ i tag ws f)
  good-element i tag ws f a h x m =
      let us = Parts.attributes_in ws in
      let pairs = Parts.taken_pairs app σ us in
      let ms = Parts.modifiers_of app σ i 0 (Parts.modifiers_in ws) in
      let qs = Render.attr_positions i us pairs in
      let rs = Render.modifier_positions ms in
      elim (in_join x (Render.forest_of (qs ++ rs)) (Render.single (Render.element_node i tag (Parts.attrs_from us pairs) ms f)) m) [
        | inl k ↦ elim (in-forest-append x qs rs k) [
          | inl l ↦ good-attr-positions i pairs (λ n. values-good i (Parts.taken_values n us) (good-taken i n us (good-attributes i ws a))) (filter (λ n. Parts.some_live (Parts.taken_values n us)) (Parts.distinct_names us)) x l
          | inr l ↦ good-modifier-positions i 0 (Parts.modifiers_in ws) (good-modifiers i ws a) x l
        ]
        | inr k ↦ elim k [ inl l ↦ elim l [ inl q ↦ good-by q tt | inr n ↦ h x n ] | inr l ↦ absurd l ]
      ]

  module _ (d : Render.Components) (y : Render.Yields) (root : Path.Path) (hd : GoodComponents d) (hy : GoodYields root y) where
    mutual
      good-stmt : (q : Template.Stmt) (w : Scope.Scope) (i : Path.Path) → Within root i → GoodScope i w → AllReadAbove (Render.render_stmt app σ d y w i q)
      good-stmt (Template.text_stmt z) w i u g = λ x m. elim m [ inl q ↦ good-by q tt | inr q ↦ absurd q ]
      good-stmt (Template.comment_stmt z) w i u g = λ x m. elim m [ inl q ↦ good-by q tt | inr q ↦ absurd q ]
      good-stmt (Template.put z) w i u g = good-position i (Eval.eval app σ w z ∷ []) (Render.single (Render.text_node i (Value.text_of (Eval.eval app σ w z).value))) (eval-good i w g z, tt) (λ x m. elim m [ inl q ↦ good-by q tt | inr q ↦ absurd q ])
      good-stmt (Template.element tag ps b) w i u g = good-element i tag (Parts.written_parts w ps) (Render.render_body app σ d y w i 0 b) (good-written i w ps g) (good-body b w i 0 u g)
      good-stmt (Template.component_stmt c ps gs bs) w i u g = hd (Path.into c ∷ i) _ (Scope.passed ps bs w) (given-good i w g gs) (good-below i (Path.into c ∷ i) w (inr (within_itself i)) g)
      good-stmt (Template.if_stmt z n b c) w i u g =
          good-position i _ _ (eval-good i w g z, tt)
          (good-if i (Eval.takes_first n (Eval.eval app σ w z).value) _ _ (good-body b w (Path.main ∷ i) 0 (inr u) (good-below i (Path.main ∷ i) w (inr (within_itself i)) g)) (good-body c w (Path.otherwise ∷ i) 0 (inr u) (good-below i (Path.otherwise ∷ i) w (inr (within_itself i)) g)))
      good-stmt (Template.each z key ns b c) w i u g =
          good-position i _ _ (eval-good i w g z, tt)
          (good-items i (Render.values_listed (Eval.eval app σ w z).value) _ _ (listed-in (AtOrAbove i) (Eval.eval app σ w z).value (eval-good i w g z).1)
          (λ vs a. good-entries (λ q x. Render.render_body app σ d y (Scope.with_locals (Scope.bind ns (Render.entry_pairs q x)) w) q 0 b) i (λ l x o. good-body b (Scope.with_locals (Scope.bind ns (Render.entry_pairs (l ∷ Path.items ∷ i) x)) w) (l ∷ Path.items ∷ i) 0 (inr (inr u))
          (good-with (l ∷ Path.items ∷ i) w _ (good-below i (l ∷ Path.items ∷ i) w (inr (inr (within_itself i))) g) (bind-in (AtOrAbove (l ∷ Path.items ∷ i)) ns _ (entry-pairs-in i l x o)))) (Render.entries key 0 [] vs) (entries-in i key 0 [] vs a))
          (good-body c w (Path.otherwise ∷ i) 0 (inr u) (good-below i (Path.otherwise ∷ i) w (inr (within_itself i)) g)))
      good-stmt (Template.let_stmt es ns b) w i u g =
          good-body b (Scope.with_locals (Scope.bind ns (Eval.eval_all app σ w es)) w) (Path.main ∷ i) 0 (inr u)
          (good-below i (Path.main ∷ i) (Scope.with_locals (Scope.bind ns (Eval.eval_all app σ w es)) w) (inr (within_itself i)) (good-with i w _ g (bind-in (AtOrAbove i) ns _ (all-good i w g es))))
      good-stmt (Template.yield es n) w i u g = hy n _ i u (all-good i w g es)

      good-body : (b : Template.Body) (w : Scope.Scope) (i : Path.Path) (n : ℕ) → Within root i → GoodScope i w → AllReadAbove (Render.render_body app σ d y w i n b)
      good-body Template.end w i n u g = λ x m. absurd m
      good-body (Template.stmt q b) w i n u g = good-join (Render.render_stmt app σ d y w (Path.at n ∷ i) q) (Render.render_body app σ d y w i (suc n) b) (good-stmt q w (Path.at n ∷ i) (inr u) (good-below i (Path.at n ∷ i) w (inr (within_itself i)) g)) (good-body b w i (suc n) u g)

  good-block : (b : Option Render.Block) (f : Render.Block → Render.Forest) → ((b : Render.Block) → AllReadAbove (f b)) → AllReadAbove (Render.in_block b f)
  good-block None f h = λ x m. absurd m
  good-block (Some b) f h = h b

  good-yields : (d : Render.Components) → GoodComponents d → (j : Path.Path) (w : Scope.Passed) → GoodPassed j w → GoodYields j (Render.yields_of app σ d w)
  good-yields d h j Scope.nothing_passed g n vs i u a = λ x m. absurd m
  good-yields d h j (Scope.passed ps bs (Scope.scope k b l w)) g n vs i u a =
      good-block (Render.block_named n bs) (λ z. Render.render_body app σ d (Render.yields_of app σ d w) (Scope.scope k b (l ++ Scope.bind z.params vs) w) (Path.slot n ∷ i) 0 z.body)
      (λ z. good-body d (Render.yields_of app σ d w) k h (good-yields d h k w g.3) z.body (Scope.scope k b (l ++ Scope.bind z.params vs) w) (Path.slot n ∷ i) 0
      (inr (within-through k j i g.0 u))
      (good-below i (Path.slot n ∷ i) (Scope.scope k b (l ++ Scope.bind z.params vs) w) (inr (within_itself i))
      (good-with i (Scope.scope k b l w) (Scope.bind z.params vs) (good-below j i (Scope.scope k b l w) u g) (bind-in (AtOrAbove i) z.params vs a))))

  good-components : (n : ℕ) → GoodComponents (Render.components_at n app σ)
  good-components zero i gs w a g x (inl q) = good-by q tt
  good-components zero i gs w a g x (inr q) = absurd q
  good-components (suc n) i gs w a g x (inl (inl q)) = good-by q a
  good-components (suc n) i gs w a g x (inl (inr m)) =
      good-body (Render.components_at n app σ) (Render.yields_of app σ (Render.components_at n app σ) w) i (good-components n) (good-yields (Render.components_at n app σ) (good-components n) i w g) (Eval.class_at app i).template (Scope.scope i gs [] w) i 0
      (within_itself i) (within_itself i, a, tt, g) x m
  good-components (suc n) i gs w a g x (inr q) = absurd q

  pub draw_good : AllReadAbove (Render.draw app σ)
  draw_good = good-components app.limit [] [] Scope.nothing_passed tt tt
