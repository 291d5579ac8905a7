-- What is read at a place stands at or above it, where no cell holds an action.
use Rattle.std.proofs.Common.{◌≡◌, ℕ, suc, List, [], ◌∷◌, ◌++◌, map, Bool, true, false, cond, refl, ap₂}
use Rattle.std.specs.Prelude.{if◌then◌else◌, filter, codes, ◌||◌}
use Rattle.std.specs.Str.{bytes_eq}
use Rattle.std.specs.List.{cons_option}
use Rattle.gl_base.specs.Texts.{Text}
use Rattle.gl_ast.specs.Template as t
use Rattle.gl_meaning.specs.App.{App}
use Rattle.gl_value.specs.Value
use Rattle.gl_value.specs.Value.{Values, no_values, value}
use Rattle.gl_ast.specs.Template.{Plain}
use Rattle.gl_meaning.specs.Path.{Path, V}
use Rattle.gl_meaning.specs.Render.{Entry, entries, values_listed}
use Rattle.gl_plain.specs.Binding.{first_value}
use Rattle.gl_meaning.specs.Scope.{Source, Pair, sources_of, NamedPairs, Scope, scope, Passed, nothing_passed, passed, this_of, arguments_of, locals_of, passed_of, with_locals, bind}
use Rattle.gl_meaning.specs.Eval.{Store, cell_value, eval_all, eval_named, eval_value, eval_given}
use Rattle.gl_meaning.specs.Parts.{Written, WrittenValue, WrittenModifier, spread_in, passed_parts, written_parts, attribute_in, attributes_in, last_only, taken_values, taken_pairs, modifier_in, modifiers_in}
use Rattle.gl_meaning.specs.Laws.{Owners, OwnersAll, Sources, PairIn, PairsIn, NamesIn, source_path}
use Rattle.gl_meaning.proofs.Above.{owners_more}
use Rattle.gl_meaning.proofs.Reach
use Rattle.gl_plain.specs.State.{any_of}
use Rattle.gl_plain.specs.Stands.{modifier_pairs}

-- The property holds of what is in scope.
module _ (P : Path → Type 0) where
  abbrev mutual
    pub ScopeIn : Scope → Type 0
    ScopeIn (scope i a l w) = P i × NamesIn P a × NamesIn P l × PassedIn w

    pub PassedIn : Passed → Type 0
    PassedIn nothing_passed = Unit {0}
    PassedIn (passed ps bs s) = ScopeIn s

-- and of the scopes of an element's parts
module _ (P : Path → Type 0) where
  abbrev WrittenIn : List (Written Scope) → Type 0
  WrittenIn [] = Unit {0}
  WrittenIn (w ∷ ws) = ScopeIn P w.by × WrittenIn ws

  abbrev ValuesIn : List (WrittenValue Scope) → Type 0
  ValuesIn [] = Unit {0}
  ValuesIn (w ∷ ws) = ScopeIn P w.by × ValuesIn ws

  abbrev pub ModifiersIn : List (WrittenModifier Scope) → Type 0
  ModifiersIn [] = Unit {0}
  ModifiersIn (w ∷ ws) = ScopeIn P w.by × ModifiersIn ws

module _ (P Q : Path → Type 0) (h : (i : Path) → P i → Q i) where
  sources_more : (xs : List Source) → Sources P xs → Sources Q xs
  sources_more [] a = tt
  sources_more (x ∷ xs) a = (h (source_path x) a.0, sources_more xs a.1)

  pub names_more : (xs : NamedPairs) → NamesIn P xs → NamesIn Q xs
  names_more [] a = tt
  names_more (x ∷ xs) a = ((sources_more x.1.sources a.0.0, owners_more P Q h x.1.value a.0.1), names_more xs a.1)

  mutual
    pub scope_more : (s : Scope) → ScopeIn P s → ScopeIn Q s
    scope_more (scope i a l w) g = (h i g.0, names_more a g.1, names_more l g.2, passed_more w g.3)

    passed_more : (w : Passed) → PassedIn P w → PassedIn Q w
    passed_more nothing_passed g = tt
    passed_more (passed ps bs s) g = scope_more s g

module _ (P : Path → Type 0) where
  names_append : (xs ys : NamedPairs) → NamesIn P xs → NamesIn P ys → NamesIn P (xs ++ ys)
  names_append [] ys a b = b
  names_append (x ∷ xs) ys a b = (a.0, names_append xs ys a.1 b)

  pub bind_in : (ns : List Text) (xs : List Pair) → PairsIn P xs → NamesIn P (bind ns xs)
  bind_in [] xs a = tt
  bind_in (n ∷ ns) [] a = ((tt, tt), bind_in ns [] tt)
  bind_in (n ∷ ns) (x ∷ xs) a = (a.0, bind_in ns xs a.1)

  pub with_in : (s : Scope) (m : NamedPairs) → ScopeIn P s → NamesIn P m → ScopeIn P (with_locals m s)
  with_in (scope i a l w) m g h = (g.0, g.1, names_append l m g.2 h, g.3)

  pub passed_in_scope : (s : Scope) → ScopeIn P s → PassedIn P (passed_of s)
  passed_in_scope (scope i a l w) g = g.3

  -- where two tests agree on the property, one of the sources passes the one where one passes the other
  any_same : (xs : List Source) (f g : Source → Bool) → ((x : Source) → P (source_path x) → f x ≡ g x) → Sources P xs → any_of xs f ≡ any_of xs g
  any_same [] f g h a = refl
  any_same (x ∷ xs) f g h a = ap₂ (λ b c. b || c) (h x a.0) (any_same xs f g h a.1)

  sources_append : (xs ys : List Source) → Sources P xs → Sources P ys → Sources P (xs ++ ys)
  sources_append [] ys a b = b
  sources_append (x ∷ xs) ys a b = (a.0, sources_append xs ys a.1 b)

  sources_all : (ps : List Pair) → PairsIn P ps → Sources P (sources_of ps)
  sources_all [] a = tt
  sources_all (x ∷ ps) a = sources_append x.sources (sources_of ps) a.0.0 (sources_all ps a.1)

  pub pairs_same : (ps : List Pair) → PairsIn P ps → (f g : Source → Bool) → ((x : Source) → P (source_path x) → f x ≡ g x) → any_of (sources_of ps) f ≡ any_of (sources_of ps) g
  pairs_same ps a f g h = any_same (sources_of ps) f g h (sources_all ps a)

  module _ (app : App) (σ : Store) (cells : (i : Path) (x : Text) → Owners P (cell_value app σ i x)) where
    scope_this : (s : Scope) → ScopeIn P s → P (this_of s)
    scope_this (scope i a l w) g = g.0

    scope_arguments : (s : Scope) → ScopeIn P s → NamesIn P (arguments_of s)
    scope_arguments (scope i a l w) g = g.1

    scope_locals : (s : Scope) → ScopeIn P s → NamesIn P (locals_of s)
    scope_locals (scope i a l w) g = g.2

    pub all_in : (s : Scope) → ScopeIn P s → (es : t.Exprs) → PairsIn P (eval_all app σ s es)
    all_in s g es = Reach.eval_all_reach P app σ cells s (scope_this s g) (scope_arguments s g) (scope_locals s g) es

    value_in : (s : Scope) → ScopeIn P s → (v : t.AttrValue) → PairIn P (eval_value app σ s v)
    value_in s g (t.fixed z) = (tt, tt)
    value_in s g (t.live e) = Reach.eval_reach P app σ cells s (scope_this s g) (scope_arguments s g) (scope_locals s g) e

    pub given_in : (s : Scope) → ScopeIn P s → (gs : List (Text × t.AttrValue)) → NamesIn P (eval_given app σ s gs)
    given_in s g [] = tt
    given_in s g (x ∷ gs) = (value_in s g x.1, given_in s g gs)

    -- the parts of an element
    written_append : (ws zs : List (Written Scope)) → WrittenIn P ws → WrittenIn P zs → WrittenIn P (ws ++ zs)
    written_append [] zs a b = b
    written_append (w ∷ ws) zs a b = (a.0, written_append ws zs a.1 b)

    spread_of : (for : List (Written Scope)) (s : Scope) (ps : List t.Part) → WrittenIn P for → ScopeIn P s → WrittenIn P (spread_in for s ps)
    spread_of for s [] a b = tt
    spread_of for s (t.spread ∷ ps) a b = written_append for _ a (spread_of for s ps a b)
    spread_of for s (t.attribute n z ∷ ps) a b = (b, spread_of for s ps a b)
    spread_of for s (t.modifier n es ns ∷ ps) a b = (b, spread_of for s ps a b)

    parts_passed : (w : Passed) → PassedIn P w → WrittenIn P (passed_parts w)
    parts_passed nothing_passed a = tt
    parts_passed (passed ps bs (scope k b l w)) a = spread_of (passed_parts w) (scope k b l w) ps (parts_passed w a.3) a

    parts_in : (s : Scope) (ps : List t.Part) → ScopeIn P s → WrittenIn P (written_parts s ps)
    parts_in s ps g = spread_of (passed_parts (passed_of s)) s ps (parts_passed (passed_of s) (passed_in_scope s g)) g

    attribute_of : (b : Scope) (q : t.Part) → ScopeIn P b → (ws : List (WrittenValue Scope)) → ValuesIn P ws → ValuesIn P (cons_option (attribute_in b q) ws)
    attribute_of b (t.attribute n z) a ws h = (a, h)
    attribute_of b (t.modifier n es ns) a ws h = h
    attribute_of b t.spread a ws h = h

    attributes_of : (ws : List (Written Scope)) → WrittenIn P ws → ValuesIn P (attributes_in ws)
    attributes_of [] a = tt
    attributes_of (w ∷ ws) a = attribute_of w.by w.part a.0 (attributes_in ws) (attributes_of ws a.1)

    modifier_one : (b : Scope) (q : t.Part) → ScopeIn P b → (ws : List (WrittenModifier Scope)) → ModifiersIn P ws → ModifiersIn P (cons_option (modifier_in b q) ws)
    modifier_one b (t.attribute n z) a ws h = h
    modifier_one b (t.modifier n es ns) a ws h = (a, h)
    modifier_one b t.spread a ws h = h

    modifiers_all : (ws : List (Written Scope)) → WrittenIn P ws → ModifiersIn P (modifiers_in ws)
    modifiers_all [] a = tt
    modifiers_all (w ∷ ws) a = modifier_one w.by w.part a.0 (modifiers_in ws) (modifiers_all ws a.1)

    filter_in : (test : WrittenValue Scope → Bool) (ws : List (WrittenValue Scope)) → ValuesIn P ws → ValuesIn P (filter test ws)
    filter_in test [] a = tt
    filter_in test (w ∷ ws) a = elim (test w) as (λ b. ValuesIn P (cond b (w ∷ filter test ws) (filter test ws))) [ true ↦ (a.0, filter_in test ws a.1) | false ↦ filter_in test ws a.1 ]

    last_in : (ws : List (WrittenValue Scope)) → ValuesIn P ws → ValuesIn P (last_only ws)
    last_in [] a = tt
    last_in (w ∷ []) a = a
    last_in (w ∷ z ∷ ws) a = last_in (z ∷ ws) a.1

    taken_in : (n : Text) (ws : List (WrittenValue Scope)) → ValuesIn P ws → ValuesIn P (taken_values n ws)
    taken_in n ws a =
        let group = filter (λ w. bytes_eq n w.name) ws in
        let h : ValuesIn P group = filter_in _ ws a in
        elim (bytes_eq n (codes "class")) as (λ b. ValuesIn P (if b then group else last_only group)) [ true ↦ h | false ↦ last_in group h ]

    values_all : (ws : List (WrittenValue Scope)) → ValuesIn P ws → PairsIn P (map (λ w. eval_value app σ w.by w.value) ws)
    values_all [] a = tt
    values_all (w ∷ ws) a = (value_in w.by a.0 w.value, values_all ws a.1)

    -- what an element's attribute takes
    pub attribute_pairs_in : (s : Scope) (ps : List t.Part) (n : Text) → ScopeIn P s → PairsIn P (taken_pairs app σ (attributes_in (written_parts s ps)) n)
    attribute_pairs_in s ps n g = let us = attributes_in (written_parts s ps) in values_all (taken_values n us) (taken_in n us (attributes_of (written_parts s ps) (parts_in s ps g)))

    -- what its modifiers take
    pub modifiers_given : (s : Scope) (ps : List t.Part) → ScopeIn P s → ModifiersIn P (modifiers_in (written_parts s ps))
    modifiers_given s ps g = modifiers_all (written_parts s ps) (parts_in s ps g)

    pairs_append : (xs ys : List Pair) → PairsIn P xs → PairsIn P ys → PairsIn P (xs ++ ys)
    pairs_append [] ys a b = b
    pairs_append (x ∷ xs) ys a b = (a.0, pairs_append xs ys a.1 b)

    names_pairs : (xs : NamedPairs) → NamesIn P xs → PairsIn P (map (λ n. n.1) xs)
    names_pairs [] a = tt
    names_pairs (x ∷ xs) a = (a.0, names_pairs xs a.1)

    pub modifier_pairs_in : (w : WrittenModifier Scope) → ScopeIn P w.by → PairsIn P (modifier_pairs app σ w)
    modifier_pairs_in w g =
        pairs_append (eval_all app σ w.by w.args) (map (λ n. n.1) (eval_named app σ w.by w.names)) (all_in w.by g w.args)
        (names_pairs (eval_named app σ w.by w.names) (Reach.eval_named_reach P app σ cells w.by (scope_this w.by g) (scope_arguments w.by g) (scope_locals w.by g) w.names))

-- The owners in the items of a list

pub first_owned : (P : Path → Type 0) (ps : List Pair) → PairsIn P ps → Owners P (first_value ps)
first_owned P [] a = tt
first_owned P (x ∷ ps) a = a.0.1

pub listed_owned : (P : Path → Type 0) (x : V) → Owners P x → OwnersAll P (values_listed x)
listed_owned P (Value.list vs) a = a
listed_owned P Value.undefined a = tt
listed_owned P Value.null a = tt
listed_owned P (Value.boolean b) a = tt
listed_owned P (Value.integer z) a = tt
listed_owned P (Value.text x) a = tt
listed_owned P (Value.pairs ms) a = tt
listed_owned P (Value.action i n vs) a = tt

abbrev pub EntriesIn : (Path → Type 0) → List Entry → Type 0
EntriesIn P [] = Unit {0}
EntriesIn P (x ∷ xs) = Owners P x.value × EntriesIn P xs

pub entries_in : (P : Path → Type 0) (key : Text) (n : ℕ) (before : List Plain) (vs : Values Path) → OwnersAll P vs → EntriesIn P (entries key n before vs)
entries_in P key n before no_values a = tt
entries_in P key n before (value x vs) a = (a.0, entries_in P key (suc n) _ vs a.1)
