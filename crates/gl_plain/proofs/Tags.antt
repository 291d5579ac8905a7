-- The parts of a tag that were bound mean what was written.
use Rattle.gl_plain.proofs.Pairs.{names_below}
use Rattle.gl_plain.specs.Reads.{IdsBelow}
use Rattle.std.proofs.Common.{◌≡◌, Option, ℕ, ◌≤◌, Bool, true, false, true≢false, List, [], ◌∷◌, ◌++◌, map, cond, refl, sym, ◌∙◌, ap, ap₂, subst, arith, suc, ◌<◌}
use Rattle.std.specs.Prelude.{if◌then◌else◌, filter, ◌||◌, not, codes}
use Rattle.std.specs.Str.{bytes_eq}
use Rattle.gl_base.specs.Texts.{Text}
use Rattle.gl_value.specs.Value.{text}
use Rattle.gl_ast.specs.Template.{AttrValue, Part}
use Rattle.gl_ast.specs.Template as t
use Rattle.gl_meaning.specs.App.{App}
use Rattle.gl_meaning.specs.Scope.{Pair, of_value}
use Rattle.gl_meaning.specs.Eval.{Store, eval, eval_all, eval_named, eval_value}
use Rattle.gl_meaning.specs.Parts.{Written, WrittenValue, WrittenModifier, attributes_in, distinct_names, taken_values, last_only, is_live, some_live, modifiers_in}
use Rattle.gl_plain.specs.Ids.{a_ref, Id, ref, occurs}
use Rattle.gl_plain.specs.State.{names_by, constant_form, MScope, scope_by, Thing, State, refs_of}
use Rattle.gl_plain.specs.Binding.{bind_expr, bind_exprs, bind_pairs}
use Rattle.gl_plain.specs.Tags.{BoundParts, bind_part, bind_written, Given, fixed_given, live_given, attributes_waiting, names_waiting, taken_waiting, is_live_given, some_waiting_live, given_pairs, given_refs, WaitingModifier, modifiers_waiting}
use Rattle.gl_plain.specs.Tags as tags
use Rattle.gl_plain.specs.Stands.{Obeys, CellsIn}
use Rattle.gl_plain.proofs.Moves.{Moves, no_move}
use Rattle.gl_plain.proofs.Binding.{row_moves, both_made, obeys_left, obeys_right, new_is, ids_append, ids_of_names, ids_below}
use Rattle.gl_plain.proofs.Bound.{bound_is, bound_are, bound_names, made_below}
use Rattle.gl_plain.proofs.Elements.{Near, NearWritten}

module _ (app : App) (f : ℕ → Pair) (ρ : Store) where
  abbrev pub GivenMeans : MScope → AttrValue → Given → Type 0
  GivenMeans by (t.fixed z) (fixed_given u) = u ≡ z
  GivenMeans by (t.live e) (live_given r) = f r ≡ eval app ρ (scope_by f by) e
  GivenMeans by _ _ = ⊥

  -- the attributes that wait are those that were written
  abbrev pub ValuesMean : List (WrittenValue MScope) → List (Text × Given) → Type 0
  ValuesMean [] [] = Unit {0}
  ValuesMean (w ∷ ws) (g ∷ gs) = (w.name ≡ g.0) × GivenMeans w.by w.value g.1 × ValuesMean ws gs
  ValuesMean _ _ = ⊥

  -- so are the modifiers
  abbrev pub ModsMean : List (WrittenModifier MScope) → List WaitingModifier → Type 0
  ModsMean [] [] = Unit {0}
  ModsMean (d ∷ ds) (k ∷ ks) =
      (d.name ≡ k.name) × (map f k.ids ≡ eval_all app ρ (scope_by f d.by) d.args) × (names_by f k.names ≡ eval_named app ρ (scope_by f d.by) d.names) × ModsMean ds ks
  ModsMean _ _ = ⊥

  -- the same names stand in both, and the same ones take live values

  pub names_mean : (ws : List (WrittenValue MScope)) (gs : List (Text × Given)) → ValuesMean ws gs → names_waiting gs ≡ distinct_names ws
  names_mean [] [] h = refl
  names_mean (w ∷ ws) (g ∷ gs) h = ap₂ (λ n ns. n ∷ filter (λ k. not (bytes_eq n k)) ns) (sym h.0) (names_mean ws gs h.2)
  names_mean [] (g ∷ gs) h = absurd h
  names_mean (w ∷ ws) [] h = absurd h

  group_means : (n : Text) (ws : List (WrittenValue MScope)) (gs : List (Text × Given)) → ValuesMean ws gs → ValuesMean (filter (λ w. bytes_eq n w.name) ws) (filter (λ g. bytes_eq n g.0) gs)
  group_means n [] [] h = tt
  group_means n (w ∷ ws) (g ∷ gs) h =
      subst (λ k. ValuesMean (cond (bytes_eq n w.name) (w ∷ filter (λ w. bytes_eq n w.name) ws) (filter (λ w. bytes_eq n w.name) ws)) (cond (bytes_eq n k) (g ∷ filter (λ g. bytes_eq n g.0) gs) (filter (λ g. bytes_eq n g.0) gs))) h.0
      (by (bytes_eq n w.name) (group_means n ws gs h.2)) where
        by : (b : Bool) → ValuesMean (filter (λ w. bytes_eq n w.name) ws) (filter (λ g. bytes_eq n g.0) gs)
            → ValuesMean (cond b (w ∷ filter (λ w. bytes_eq n w.name) ws) (filter (λ w. bytes_eq n w.name) ws)) (cond b (g ∷ filter (λ g. bytes_eq n g.0) gs) (filter (λ g. bytes_eq n g.0) gs))
        by true k = (h.0, h.1, k)
        by false k = k
  group_means n [] (g ∷ gs) h = absurd h
  group_means n (w ∷ ws) [] h = absurd h

  last_means : (ws : List (WrittenValue MScope)) (gs : List (Text × Given)) → ValuesMean ws gs → ValuesMean (last_only ws) (last_only gs)
  last_means [] [] h = tt
  last_means (w ∷ []) (g ∷ []) h = h
  last_means (w ∷ v ∷ ws) (g ∷ k ∷ gs) h = last_means (v ∷ ws) (k ∷ gs) h.2
  last_means [] (g ∷ gs) h = absurd h
  last_means (w ∷ ws) [] h = absurd h
  last_means (w ∷ []) (g ∷ k ∷ gs) h = absurd h.2
  last_means (w ∷ v ∷ ws) (g ∷ []) h = absurd h.2

  pub taken_means : (n : Text) (ws : List (WrittenValue MScope)) (gs : List (Text × Given)) → ValuesMean ws gs → ValuesMean (taken_values n ws) (taken_waiting n gs)
  taken_means n ws gs h = by (bytes_eq n (codes "class")) (group_means n ws gs h) where
    by : (b : Bool) → ValuesMean (filter (λ w. bytes_eq n w.name) ws) (filter (λ g. bytes_eq n g.0) gs)
        → ValuesMean (if b then filter (λ w. bytes_eq n w.name) ws else last_only (filter (λ w. bytes_eq n w.name) ws)) (if b then filter (λ g. bytes_eq n g.0) gs else last_only (filter (λ g. bytes_eq n g.0) gs))
    by true k = k
    by false k = last_means _ _ k

  given_live : (by : MScope) (v : AttrValue) (g : Given) → GivenMeans by v g → is_live_given g ≡ is_live v
  given_live by (t.fixed z) (fixed_given u) h = refl
  given_live by (t.live e) (live_given r) h = refl
  given_live by (t.fixed z) (live_given r) h = absurd h
  given_live by (t.live e) (fixed_given u) h = absurd h

  pub live_means : (ws : List (WrittenValue MScope)) (gs : List (Text × Given)) → ValuesMean ws gs → some_waiting_live gs ≡ some_live ws
  live_means [] [] h = refl
  live_means (w ∷ ws) (g ∷ gs) h = ap₂ (λ b c. b || c) (given_live w.by w.value g.1 h.1) (live_means ws gs h.2)
  live_means [] (g ∷ gs) h = absurd h
  live_means (w ∷ ws) [] h = absurd h

  -- values of which none is live
  pub fixed_means : (ws : List (WrittenValue MScope)) (gs : List (Text × Given)) → ValuesMean ws gs → some_waiting_live gs ≡ false → given_pairs gs ≡ map (λ w. eval_value app ρ (scope_by f w.by) w.value) ws
  fixed_means [] [] h e = refl
  fixed_means (w ∷ ws) (g ∷ gs) h e = by w.value g.1 h.1 e (fixed_means ws gs h.2) where
    by : (v : AttrValue) (k : Given) → GivenMeans w.by v k → (is_live_given k || some_waiting_live gs) ≡ false
        → (some_waiting_live gs ≡ false → given_pairs gs ≡ map (λ w. eval_value app ρ (scope_by f w.by) w.value) ws)
        → tags.given_pair k ∷ given_pairs gs ≡ eval_value app ρ (scope_by f w.by) v ∷ map (λ w. eval_value app ρ (scope_by f w.by) w.value) ws
    by (t.fixed z) (fixed_given u) m d rec = ap₂ (λ x xs. of_value (text x) ∷ xs) m (rec d)
    by (t.live x) (live_given r) m d rec = absurd (true≢false d)
    by (t.fixed z) (live_given r) m d rec = absurd m
    by (t.live x) (fixed_given u) m d rec = absurd m
  fixed_means [] (g ∷ gs) h e = absurd h
  fixed_means (w ∷ ws) [] h e = absurd h

-- Of the parts that wait, no reference has a number from n on.

abbrev pub PartsBelow : ℕ → List tags.Waiting → Type 0
PartsBelow n [] = Unit {0}
PartsBelow n (tags.fixed_part k t ∷ ws) = PartsBelow n ws
PartsBelow n (tags.live_part k r ∷ ws) = (r < n) × PartsBelow n ws
PartsBelow n (tags.modifier_part k rs ns ∷ ws) = IdsBelow n (rs ++ refs_of ns) × PartsBelow n ws

abbrev pub GivenBelow : ℕ → Given → Type 0
GivenBelow n (fixed_given t) = Unit {0}
GivenBelow n (live_given r) = r < n

abbrev pub GivensBelow : ℕ → List (Text × Given) → Type 0
GivensBelow n [] = Unit {0}
GivensBelow n (g ∷ gs) = GivenBelow n g.1 × GivensBelow n gs

abbrev pub ModsBelow : ℕ → List WaitingModifier → Type 0
ModsBelow n [] = Unit {0}
ModsBelow n (k ∷ ks) = IdsBelow n (k.ids ++ refs_of k.names) × ModsBelow n ks

pub attributes_below : (n : ℕ) (ws : List tags.Waiting) → PartsBelow n ws → GivensBelow n (attributes_waiting ws)
attributes_below n [] h = tt
attributes_below n (tags.fixed_part k t ∷ ws) h = (tt, attributes_below n ws h)
attributes_below n (tags.live_part k r ∷ ws) h = (h.0, attributes_below n ws h.1)
attributes_below n (tags.modifier_part k rs ns ∷ ws) h = attributes_below n ws h.1

pub modifiers_below : (n : ℕ) (ws : List tags.Waiting) → PartsBelow n ws → ModsBelow n (modifiers_waiting ws)
modifiers_below n [] h = tt
modifiers_below n (tags.fixed_part k t ∷ ws) h = modifiers_below n ws h
modifiers_below n (tags.live_part k r ∷ ws) h = modifiers_below n ws h.1
modifiers_below n (tags.modifier_part k rs ns ∷ ws) h = (h.0, modifiers_below n ws h.1)

group_below : (n : ℕ) (test : Text × Given → Bool) (gs : List (Text × Given)) → GivensBelow n gs → GivensBelow n (filter test gs)
group_below n test [] h = tt
group_below n test (g ∷ gs) h = elim (test g) as (λ c. GivensBelow n (cond c (g ∷ filter test gs) (filter test gs))) [ true ↦ (h.0, group_below n test gs h.1) | false ↦ group_below n test gs h.1 ]

last_below_one : (n : ℕ) (gs : List (Text × Given)) → GivensBelow n gs → GivensBelow n (last_only gs)
last_below_one n [] h = tt
last_below_one n (g ∷ []) h = h
last_below_one n (g ∷ k ∷ gs) h = last_below_one n (k ∷ gs) h.1

pub taken_below : (n : ℕ) (k : Text) (gs : List (Text × Given)) → GivensBelow n gs → GivensBelow n (taken_waiting k gs)
taken_below n k gs h =
    let group = filter (λ w. bytes_eq k w.0) gs in
    let low : GivensBelow n group = group_below n _ gs h in
    elim (bytes_eq k (codes "class")) as (λ c. GivensBelow n (if c then group else last_only group)) [ true ↦ low | false ↦ last_below_one n group low ]

-- What binding the parts gives. Their scopes are those in scope.

module _ (app : App) (b : ℕ) (ms : MScope) where
  abbrev pub WrittenGives : (Id → Option Thing) → List Id → List (Written MScope) → List tags.Waiting → Type 0
  WrittenGives look made ws ps =
      (f : ℕ → Pair) (ρ : Store) → Obeys look made f → CellsIn app ρ f ms
      → ValuesMean app f ρ (attributes_in ws) (attributes_waiting ps) × ModsMean app f ρ (modifiers_in ws) (modifiers_waiting ps)

  pub record BindsWritten (st : State) (ws : List (Written MScope)) (x : BoundParts) : Type 0 where
    pub moves : Moves st x.state (λ q. 0) (λ q. occurs q x.made)
    pub gives : WrittenGives x.state.look x.made ws x.parts
    pub low : PartsBelow (x.state.next a_ref) x.parts

  pub still_low : (st st' : State) (c : Id → ℕ) → b ≤ st.next a_ref → Moves st st' (λ q. 0) c → b ≤ st'.next a_ref
  still_low st st' c le m = let h = m.more (ref 0) in omega (arith, h, le)

  pub written_are : (ws : List (Written MScope)) → NearWritten app b ms ws → (st : State) → b ≤ st.next a_ref → BindsWritten st ws (bind_written app ws st)
  written_are [] near st le = record { moves = no_move st; gives = λ f ρ ob c. (tt, tt); low = tt }
  written_are (w ∷ ws) near st le = by w.by w.part near.0 (written_are ws near.1) where
    by : (s : MScope) (p : Part) → Near app b ms s → ((st' : State) → b ≤ st'.next a_ref → BindsWritten st' ws (bind_written app ws st'))
        → BindsWritten st (record { part = p; by = s } ∷ ws) (bind_written app (record { part = p; by = s } ∷ ws) st)
    by s (t.attribute n (t.fixed z)) k rec =
        let r = rec st le in record { moves = r.moves; gives = λ f ρ ob c. let g = r.gives f ρ ob c in ((refl, refl, g.0), g.1); low = r.low }
    by s (t.attribute n (t.live e)) k rec =
        let x = bind_expr app s e st in
        let h = bound_is app b s k.0 e st le in
        let y = bind_written app ws x.state in
        let r = rec x.state (still_low st x.state (λ q. occurs q x.made) le h.moves) in
        record {
          moves = both_made st x.state y.state x.made y.made h.moves r.moves;
          gives = λ f ρ ob c.
              let g = r.gives f ρ (obeys_right y.state.look x.made y.made f ob) c in
              ((refl, h.gives f ρ (obeys_left st x.state y.state x.made y.made f h.moves r.moves ob) (k.1 ρ f c), g.0), g.1);
          low = (let i = h.low in let j = made_below b st x.state x.made le h.moves in let e = r.moves.more (ref 0) in omega (arith, i, j, e), r.low);
        }
    by s (t.modifier n es ns) k rec =
        let x = bind_exprs app s es st in
        let h = bound_are app b s k.0 es st le in
        let le1 = still_low st x.state (λ q. occurs q x.made) le h.moves in
        let z = bind_pairs app s ns x.state in
        let i = bound_names app b s k.0 ns x.state le1 in
        let made = x.made ++ z.made in
        let m = both_made st x.state z.state x.made z.made h.moves i.moves in
        let y = bind_written app ws z.state in
        let r = rec z.state (still_low st z.state (λ q. occurs q made) le m) in
        record {
          moves = both_made st z.state y.state made y.made m r.moves;
          gives = λ f ρ ob c.
              let g = r.gives f ρ (obeys_right y.state.look made y.made f ob) c in
              let both = obeys_left st z.state y.state made y.made f m r.moves ob in (
                g.0,
                (
                  refl,
                  h.gives f ρ (obeys_left st x.state z.state x.made z.made f h.moves i.moves both) (k.1 ρ f c),
                  i.gives f ρ (obeys_right z.state.look x.made z.made f both) (k.1 ρ f c),
                  g.1,
                ),
              );
          low = (
            let j = made_below b st x.state x.made le h.moves in
                let u = made_below b x.state z.state z.made le1 i.moves in
                let a = i.moves.more (ref 0) in
                let e = r.moves.more (ref 0) in
                ids_append _ x.ids (refs_of z.names) (ids_below _ _ (omega (arith, j, a, e)) x.ids h.low) (ids_of_names _ z.names (names_below _ _ (omega (arith, u, e)) z.names i.low)),
            r.low,
          );
        }
    by s t.spread k rec = let r = rec st le in record { moves = r.moves; gives = r.gives; low = r.low }

-- The references of a position mean the values that it takes.

pub refs_move : (gs : List (Text × Given)) (st : State) → let x = given_refs gs st in Moves st x.state (λ q. 0) (λ q. occurs q x.made)
refs_move [] st = no_move st
refs_move (g ∷ gs) st = by g.1 (refs_move gs) where
  by : (k : Given) → ((st' : State) → Moves st' (given_refs gs st').state (λ q. 0) (λ q. occurs q (given_refs gs st').made)) → let x = tags.given_ref k st in let y = given_refs gs x.state in Moves st y.state (λ q. 0) (λ q. occurs q (x.made ++ y.made))
  by (fixed_given u) rec =
      let x = tags.given_ref (fixed_given u) st in let y = given_refs gs x.state in
      both_made st x.state y.state x.made y.made (row_moves (constant_form (text u)) st tt) (rec x.state)
  by (live_given r) rec = rec st

pub refs_low : (n : ℕ) (gs : List (Text × Given)) (st : State) → n ≤ st.next a_ref → GivensBelow n gs → IdsBelow ((given_refs gs st).state.next a_ref) (given_refs gs st).ids
refs_low n [] st le h = tt
refs_low n (g ∷ gs) st le h = by g.1 h.0 (λ st' le'. refs_low n gs st' le' h.1) where
  by : (k : Given) → GivenBelow n k → ((st' : State) → n ≤ st'.next a_ref → IdsBelow ((given_refs gs st').state.next a_ref) (given_refs gs st').ids)
      → let x = tags.given_ref k st in let y = given_refs gs x.state in IdsBelow (y.state.next a_ref) (x.id ∷ y.ids)
  by (fixed_given u) i rec =
      let x = tags.given_ref (fixed_given u) st in
      let m = (row_moves (constant_form (text u)) st tt).more (ref 0) in
      let e : x.state.next a_ref ≡ suc (st.next a_ref) = refl in
      let j = (refs_move gs x.state).more (ref 0) in
      (omega (arith, e, j), rec x.state (omega (arith, e, le)))
  by (live_given r) i rec = let j = (refs_move gs st).more (ref 0) in (omega (arith, i, j, le), rec st le)

module _ (app : App) (b : ℕ) (ms : MScope) (f : ℕ → Pair) (ρ : Store) (cells : CellsIn app ρ f ms) where
  pub refs_mean : (ws : List (WrittenValue MScope)) (gs : List (Text × Given)) (st : State) → ValuesMean app f ρ ws gs → Obeys (given_refs gs st).state.look (given_refs gs st).made f
      → map f (given_refs gs st).ids ≡ map (λ w. eval_value app ρ (scope_by f w.by) w.value) ws
  refs_mean [] [] st h ob = refl
  refs_mean (w ∷ ws) (g ∷ gs) st h ob = by w.value g.1 h.1 ob (λ st'. refs_mean ws gs st' h.2) where
    by : (v : AttrValue) (k : Given) → GivenMeans app f ρ w.by v k
        → (let x = tags.given_ref k st in let y = given_refs gs x.state in Obeys y.state.look (x.made ++ y.made) f)
        → ((st' : State) → Obeys (given_refs gs st').state.look (given_refs gs st').made f → map f (given_refs gs st').ids ≡ map (λ w. eval_value app ρ (scope_by f w.by) w.value) ws)
        → (let x = tags.given_ref k st in let y = given_refs gs x.state in f x.id ∷ map f y.ids) ≡ eval_value app ρ (scope_by f w.by) v ∷ map (λ w. eval_value app ρ (scope_by f w.by) w.value) ws
    by (t.fixed z) (fixed_given u) m o rec =
        let x = tags.given_ref (fixed_given u) st in let y = given_refs gs x.state in
        let n = new_is app b ms st (constant_form (text u)) tt (λ τ g. of_value (text u)) (λ g τ c. refl) in
        ap₂ (λ p ps. p ∷ ps) (n.gives f ρ (obeys_left st x.state y.state x.made y.made f n.moves (refs_move gs x.state) o) cells ∙ ap (λ p. of_value (text p)) m)
        (rec x.state (obeys_right y.state.look x.made y.made f o))
    by (t.live e) (live_given r) m o rec = ap₂ (λ p ps. p ∷ ps) m (rec st o)
    by (t.fixed z) (live_given r) m o rec = absurd m
    by (t.live e) (fixed_given u) m o rec = absurd m
  refs_mean [] (g ∷ gs) st h ob = absurd h
  refs_mean (w ∷ ws) [] st h ob = absurd h
