-- When what the machine keeps stands for a rendering.
use Rattle.std.specs.Prelude.{◌≡◌, ◌<◌, ◌≤◌, ℕ, zero, suc, max, List, [], ◌∷◌, ◌++◌, map, filter, length, true, false, nat_lt, if◌then◌else◌, Option, Some, None}
use Rattle.gl_base.specs.Texts.{Text}
use Rattle.gl_value.specs.Value.{Values, no_values, value, text_of, count_value}
use Rattle.gl_ast.specs.Template.{Expr, Exprs, no_exprs, expr, Stmt, text_stmt, comment_stmt, put, element, component_stmt, if_stmt, each, let_stmt, yield, Body, end, stmt, Part}
use Rattle.gl_meaning.specs.App.{App}
use Rattle.gl_meaning.specs.Path.{at, main, otherwise, items, item, into, slot, Path}
use Rattle.gl_meaning.specs.Scope.{cell, item_value, item_index, Pair, absent, sources_of, Scope, scope, passed, passed_of, with_locals, bind}
use Rattle.gl_meaning.specs.Eval.{Store, class_at, cell_value, field_member, member_of, takes_first, values_in, eval_all, eval_given}
use Rattle.gl_meaning.specs.Parts.{WrittenValue, WrittenModifier, written_parts, attributes_in, distinct_names, taken_values, some_live, attrs_from, modifiers_in, taken_pairs, modifier_of}
use Rattle.gl_meaning.specs.Render.{Entry, entries, entry_pairs, values_listed, Block, block_named}
use Rattle.gl_plain.specs.Ids.{a_ref, a_modifier, Id, kind_eq, ref, node, block_id, instance_id, occurs}
use Rattle.gl_plain.specs.State.{any_of, source_form, all_form, Names, names_by, Inst, MScope, mscope, MPassed, mnothing, mpassed, scope_by, passed_in, mslots, mwriter, writer, named_as, with_names, cell_ref, element_content, text_content, comment_content, content, instance_row, block_row, row, modifier_row, Thing, State, thing_pair}
use Rattle.gl_plain.specs.Binding.{Spot, first_value}
use Rattle.gl_plain.specs.Live.{AttrSpot, ModSpot, ItemSpot, item_names, item_made, Live, still, put_live, element_live, branch_live, listed, unlisted, let_live, component_live, yield_live, deep_live, Items, no_items, item_live, Lives, no_lives, live_and, times_in, have_node}
use Rattle.gl_plain.specs.Renew.{spot_ids}

-- What references mean

-- what f gives for the numbers below n
abbrev pub below : ℕ → (ℕ → Pair) → ℕ → Pair
below n f q = if nat_lt q n then f q else absent

-- f gives for these references what their forms mean
abbrev pub Obeys : (Id → Option Thing) → List Id → (ℕ → Pair) → Type 0
Obeys look made f = (q : ℕ) → 0 < occurs (ref q) made → f q ≡ thing_pair (below q f) (look (ref q))

-- f gives what a store has for the cells of an instance, and of each in the chain of those that wrote what was passed
abbrev pub CellsAt : App → Store → (ℕ → Pair) → Inst → Type 0
CellsAt app τ f i =
    (x : Text) → member_of (class_at app i.path) x ≡ field_member
    → f (cell_ref i x) ≡ record { value = cell_value app τ i.path x; sources = cell i.path x ∷ [] }

abbrev mutual
  pub CellsIn : App → Store → (ℕ → Pair) → MScope → Type 0
  CellsIn app τ f (mscope i a l w) = CellsAt app τ f i × CellsPassed app τ f w

  pub CellsPassed : App → Store → (ℕ → Pair) → MPassed → Type 0
  CellsPassed app τ f mnothing = Unit {0}
  CellsPassed app τ f (mpassed k ps bs s) = CellsIn app τ f s

-- The references that were made give, over any store and whatever the scope's references mean, what E says. This speaks of forms alone.
module _ (app : App) (look : Id → Option Thing) (made : List Id) (ms : MScope) where
  abbrev pub Gives : {A : Type 0} → ((ℕ → Pair) → A) → (Store → (ℕ → Pair) → A) → Type 0
  Gives {A} g E = (f : ℕ → Pair) (τ : Store) → Obeys look made f → CellsIn app τ f ms → g f ≡ E τ f

-- Numbers in scope

-- the least number above all references among these
abbrev pub above_ref : Id → ℕ
above_ref q = if kind_eq q.kind a_ref then suc q.num else 0

unfoldable pub top : List Id → ℕ
top [] = 0
top (q ∷ qs) = max (above_ref q) (top qs)

abbrev pub NamesBelow : ℕ → Names → Type 0
NamesBelow b [] = Unit {0}
NamesBelow b (n ∷ ns) = (n.1 < b) × NamesBelow b ns

-- all references in scope have lower numbers
abbrev mutual
  pub ScopeBelow : App → ℕ → MScope → Type 0
  ScopeBelow app b (mscope i a l w) =
      ((x : Text) → member_of (class_at app i.path) x ≡ field_member → cell_ref i x < b) × NamesBelow b a × NamesBelow b l × PassedBelow app b w

  pub PassedBelow : App → ℕ → MPassed → Type 0
  PassedBelow app b mnothing = Unit {0}
  PassedBelow app b (mpassed k ps bs s) = ScopeBelow app b s

-- no reference of the part has a lower number
abbrev pub From : ℕ → (Id → ℕ) → Type 0
From b count = (q : ℕ) → q < b → count (ref q) ≡ 0

-- Positions

-- the thing of a position's reference: it reads the references that give E, and last read the sources of these pairs
abbrev pub SpotThing : App → (Id → Option Thing) → MScope → List Id → (Store → (ℕ → Pair) → List Pair) → List Pair → Option Thing → Type 0
SpotThing app look ms made E ps t =
    (t ≡ Some (row (record { form = all_form (spot_ids t); last = any_of (sources_of ps) }))) × Gives app look made ms (λ f. map f (spot_ids t)) E

-- A position's reference is its own, and is so. Those that it reads are its own too, or among more that were made before it.
pub record SpottedIn (app : App) (look : Id → Option Thing) (ms : MScope) (more : List Id) (s : Spot) (E : Store → (ℕ → Pair) → List Pair) (ps : List Pair) : Type 0 where
  pub own : 0 < occurs (ref s.ref) s.made
  pub is : SpotThing app look ms (more ++ s.made) E ps (look (ref s.ref))

abbrev pub Spotted : App → (Id → Option Thing) → MScope → Spot → (Store → (ℕ → Pair) → List Pair) → List Pair → Type 0
Spotted app look ms s E ps = SpottedIn app look ms [] s E ps

abbrev pub exprs_by : App → MScope → Exprs → Store → (ℕ → Pair) → List Pair
exprs_by app ms es τ f = eval_all app τ (scope_by f ms) es

abbrev pub one_expr : Expr → Exprs
one_expr e = expr e no_exprs

-- an element's attributes and modifiers, by its scope
abbrev pub attrs_by : List Part → Scope → List (WrittenValue Scope)
attrs_by ps s = attributes_in (written_parts s ps)

abbrev pub mods_by : List Part → Scope → List (WrittenModifier Scope)
mods_by ps s = modifiers_in (written_parts s ps)

-- the modifiers of an element, before they have paths
abbrev pub modifier_pairs : App → Store → WrittenModifier Scope → List Pair
modifier_pairs app σ w = let m = modifier_of app σ [] 0 w in m.args ++ map (λ n. n.1) m.names

abbrev pub head_of : List (WrittenModifier Scope) → Option (WrittenModifier Scope)
head_of [] = None
head_of (w ∷ ws) = Some w

abbrev pub tail_of : List (WrittenModifier Scope) → List (WrittenModifier Scope)
tail_of [] = []
tail_of (w ∷ ws) = ws

abbrev pub pairs_for : App → Store → Option (WrittenModifier Scope) → List Pair
pairs_for app σ None = []
pairs_for app σ (Some w) = modifier_pairs app σ w

abbrev pub WhereValues : Values Path → (Values Path → Type 0) → Type 0 → Type 0
WhereValues no_values P Q = Q
WhereValues (value v vs) P Q = P (value v vs)

abbrev pub WhereBlock : Option Block → (Block → Type 0) → Type 0 → Type 0
WhereBlock None P Q = Q
WhereBlock (Some b) P Q = P b

-- What is shown is the rendering over the store σ; the cells hold what the store τ has. Between two turns these are the same.
module _ (app : App) (σ τ : Store) (look : Id → Option Thing) where
  -- the attributes that take live values, which read what was made for the tag
  abbrev pub AttrsStand : List Id → Scope → MScope → (Scope → List (WrittenValue Scope)) → List Text → List AttrSpot → Type 0
  AttrsStand made s ms ws [] [] = Unit {0}
  AttrsStand made s ms ws (n ∷ ns) (a ∷ xs) =
      (a.name ≡ n) × SpottedIn app look ms made a.spot (λ ρ f. taken_pairs app ρ (ws (scope_by f ms)) n) (taken_pairs app σ (ws s) n) × AttrsStand made s ms ws ns xs
  AttrsStand made s ms ws _ _ = ⊥

  -- the modifiers of the element n; the first of these has the number i
  abbrev pub ModsStand : List Id → ℕ → Scope → MScope → (Scope → List (WrittenModifier Scope)) → ℕ → List (WrittenModifier Scope) → List ModSpot → Type 0
  ModsStand made n s ms ws i [] [] = Unit {0}
  ModsStand made n s ms ws i (w ∷ rest) (z ∷ zs) =
      let m = modifier_of app σ [] 0 w in
      (look (record { kind = a_modifier; num = z.id })
      ≡ Some (modifier_row (record { on_node = n; place = i; name = m.name; args = values_in m.args; names = map (λ x. (x.0, x.1.value)) m.names })))
      × (z.positional ≡ length m.args)
      × (z.names ≡ map (λ x. x.0) m.names)
      × SpottedIn app look ms made z.spot (λ ρ f. pairs_for app ρ (head_of (ws (scope_by f ms)))) (modifier_pairs app σ w)
      × ModsStand made n s ms (λ s'. tail_of (ws s')) (suc i) rest zs
  ModsStand made n s ms ws i _ _ = ⊥

  -- the comment of a branch or an item, where no node stands in it
  abbrev pub CommentStands : Option ℕ → Lives → Type 0
  CommentStands None ls = have_node ls ≡ true
  CommentStands (Some n) ls = (have_node ls ≡ false) × (look (node n) ≡ Some (content (comment_content [])))

  -- the cells of an instance, in references of its own
  abbrev pub CellsStand : Inst → List Id → Type 0
  CellsStand i made =
      (x : Text) → member_of (class_at app i.path) x ≡ field_member
      → (0 < occurs (ref (cell_ref i x)) made)
      × (look (ref (cell_ref i x)) ≡ Some (row (record { form = source_form (cell i.path x) (cell_value app τ i.path x); last = any_of [] })))

  -- an item's value and index, in references of its own
  abbrev pub ItemStands : Path → MScope → List Text → Entry → ItemSpot → Type 0
  ItemStands q ms ns x z =
      (z.key ≡ x.key) × (z.occurrence ≡ x.occurrence)
      × (look (ref z.value) ≡ Some (row (record { form = source_form (item_value q) x.value; last = any_of [] })))
      × (look (ref z.index) ≡ Some (row (record { form = source_form (item_index q) (count_value x.index); last = any_of [] })))
      × Gives app look z.more ms (λ f. names_by f (item_names ns z)) (λ ρ f. bind ns (f z.value ∷ f z.index ∷ []))

  -- The part stands for a statement at a path: m levels of nesting are left, all references in scope have numbers below b, and those
  -- of the part have none of these.
  abbrev mutual
    pub Stands : ℕ → ℕ → Scope → MScope → Path → Stmt → Live → Type 0
    Stands m b s ms p (text_stmt t) (still n) = look (node n) ≡ Some (content (text_content t))
    Stands m b s ms p (comment_stmt t) (still n) = look (node n) ≡ Some (content (comment_content t))
    Stands m b s ms p (put e) (put_live n z) =
        let vs = eval_all app σ s (one_expr e) in
        (look (node n) ≡ Some (content (text_content (text_of (first_value vs))))) × Spotted app look ms z (exprs_by app ms (one_expr e)) vs
    Stands m b s ms p (element tag ps body) (element_live n made xs zs ls) =
        let vs = attrs_by ps s in let ds = mods_by ps s in
        (look (node n) ≡ Some (content (element_content tag (attrs_from vs (taken_pairs app σ vs)))))
        × AttrsStand made s ms (attrs_by ps) (filter (λ k. some_live (taken_values k vs)) (distinct_names vs)) xs
        × ModsStand made n s ms (mods_by ps) 0 ds zs
        × StandIn m b s ms p 0 body ls
    Stands m b s ms p (if_stmt e unless c d) (branch_live z true k ls) =
        let vs = eval_all app σ s (one_expr e) in
        Spotted app look ms z (exprs_by app ms (one_expr e)) vs × (takes_first unless (first_value vs) ≡ true) × CommentStands k ls × StandIn m b s ms (main ∷ p) 0 c ls
    Stands m b s ms p (if_stmt e unless c d) (branch_live z false k ls) =
        let vs = eval_all app σ s (one_expr e) in
        Spotted app look ms z (exprs_by app ms (one_expr e)) vs × (takes_first unless (first_value vs) ≡ false) × CommentStands k ls × StandIn m b s ms (otherwise ∷ p) 0 d ls
    Stands m b s ms p (each e k ns c d) (listed z is) =
        let vs = eval_all app σ s (one_expr e) in
        Spotted app look ms z (exprs_by app ms (one_expr e)) vs
        × WhereValues (values_listed (first_value vs)) (λ xs. ItemsStand m b s ms (items ∷ p) ns c (entries k 0 [] xs) is) ⊥
    Stands m b s ms p (each e k ns c d) (unlisted z o ls) =
        let vs = eval_all app σ s (one_expr e) in
        Spotted app look ms z (exprs_by app ms (one_expr e)) vs
        × WhereValues (values_listed (first_value vs)) (λ xs. ⊥) (CommentStands o ls × StandIn m b s ms (otherwise ∷ p) 0 d ls)
    Stands m b s ms p (let_stmt es ns c) (let_live made rs ls) =
        let b' = max b (top made) in let names = named_as ns rs in
        Gives app look made ms (λ f. names_by f names) (λ ρ f. bind ns (exprs_by app ms es ρ f))
        × NamesBelow b' names × From b' (λ q. times_in q ls)
        × StandIn m b' (with_locals (bind ns (eval_all app σ s es)) s) (with_names names ms) (main ∷ p) 0 c ls
    Stands (suc m) b s ms p (component_stmt c ps given bs) (component_live i made gm args (Some k) ls) =
        let b' = max b (top made) in let q = into c ∷ p in
        ((0 < occurs (block_id k) gm) × (look (block_id k) ≡ Some block_row))
        × ((0 < occurs (instance_id i.id) made) × (look (instance_id i.id) ≡ Some (instance_row i)))
        × (i.path ≡ q)
        × (((x : Id) → 0 < occurs x gm → 0 < occurs x made) × ((x : Text) → member_of (class_at app q) x ≡ field_member → occurs (ref (cell_ref i x)) gm ≡ 0)
        × Gives app look gm ms (λ f. names_by f args) (λ ρ f. eval_given app ρ (scope_by f ms) given))
        × CellsStand i made
        × NamesBelow b' args × From b' (λ q. times_in q ls)
        × StandIn m b' (scope q (eval_given app σ s given) [] (passed ps bs s)) (mscope i args [] (mpassed k ps bs ms)) q 0 (class_at app q).template ls
    Stands zero b s ms p (component_stmt c ps given bs) (deep_live q) = q ≡ into c ∷ p
    Stands m b s ms p (yield es n) (yield_live k made rs ls) =
        let b' = max b (top made) in
        (k ≡ n)
        × WhereBlock (block_named n (mslots (passed_in ms)))
        (λ c. let names = named_as c.params rs in
        Gives app look made ms (λ f. names_by f names) (λ ρ f. bind c.params (exprs_by app ms es ρ f))
        × NamesBelow b' names × From b' (λ q. times_in q ls)
        × StandIn m b' (with_locals (bind c.params (eval_all app σ s es)) (writer (passed_of s))) (with_names names (mwriter (passed_in ms))) (slot n ∷ p) 0 c.body ls)
        (ls ≡ no_lives)
    Stands m b s ms p _ _ = ⊥

    pub StandIn : ℕ → ℕ → Scope → MScope → Path → ℕ → Body → Lives → Type 0
    StandIn m b s ms p i end no_lives = Unit {0}
    StandIn m b s ms p i (stmt t c) (live_and l ls) = Stands m b s ms (at i ∷ p) t l × StandIn m b s ms p (suc i) c ls
    StandIn m b s ms p i _ _ = ⊥

    pub ItemsStand : ℕ → ℕ → Scope → MScope → Path → List Text → Body → List Entry → Items → Type 0
    ItemsStand m b s ms p ns c [] no_items = Unit {0}
    ItemsStand m b s ms p ns c (x ∷ xs) (item_live z o ls is) =
        let q = item x.key x.occurrence ∷ p in let b' = max b (top (item_made z)) in
        ItemStands q ms ns x z
        × NamesBelow b' (item_names ns z) × From b' (λ r. times_in r ls)
        × CommentStands o ls
        × StandIn m b' (with_locals (bind ns (entry_pairs q x)) s) (with_names (item_names ns z) ms) q 0 c ls
        × ItemsStand m b s ms p ns c xs is
    ItemsStand m b s ms p ns c _ _ = ⊥

  -- what stands for the body of a `let` with these parameters
  abbrev pub LetStands : ℕ → ℕ → Scope → MScope → Path → Exprs → List Text → Body → List Id → Names → Lives → Type 0
  LetStands m b s ms p es ns c made names ls =
      Gives app look made ms (λ f. names_by f names) (λ ρ f. bind ns (exprs_by app ms es ρ f))
      × NamesBelow (max b (top made)) names × From (max b (top made)) (λ q. times_in q ls)
      × StandIn m (max b (top made)) (with_locals (bind ns (eval_all app σ s es)) s) (with_names names ms) (main ∷ p) 0 c ls

  -- what stands for a yielded block, and for the items or the other body of an `each`
  abbrev pub NamedStands : ℕ → ℕ → Scope → MScope → Path → Exprs → Text → List Id → Names → Lives → Block → Type 0
  NamedStands m b s ms p es n made names ls c =
      Gives app look made ms (λ f. names_by f names) (λ ρ f. bind c.params (exprs_by app ms es ρ f))
      × NamesBelow (max b (top made)) names × From (max b (top made)) (λ q. times_in q ls)
      × StandIn m (max b (top made)) (with_locals (bind c.params (eval_all app σ s es)) (writer (passed_of s))) (with_names names (mwriter (passed_in ms))) (slot n ∷ p) 0 c.body ls

  abbrev pub BlockStands : ℕ → ℕ → Scope → MScope → Path → Exprs → Text → List Id → List ℕ → Lives → Block → Type 0
  BlockStands m b s ms p es n made rs ls c = NamedStands m b s ms p es n made (named_as c.params rs) ls c

  abbrev pub ListStands : ℕ → ℕ → Scope → MScope → Path → Text → List Text → Body → Items → Values Path → Type 0
  ListStands m b s ms p k ns c is xs = ItemsStand m b s ms (items ∷ p) ns c (entries k 0 [] xs) is

  abbrev pub ElseStands : ℕ → ℕ → Scope → MScope → Path → Body → Option ℕ → Lives → Type 0
  ElseStands m b s ms p d o ls = CommentStands o ls × StandIn m b s ms (otherwise ∷ p) 0 d ls

-- Whose things are whose

-- the ids occur in one part alone, and all are old
pub record Owned (st : State) (count : Id → ℕ) : Type 0 where
  pub once : (q : Id) → count q ≤ 1
  pub old : (q : Id) → st.next q.kind ≤ q.num → count q ≡ 0
