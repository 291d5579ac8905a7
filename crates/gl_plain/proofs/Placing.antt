-- New scopes and new positions.
use Rattle.gl_plain.specs.Reads.{IdsBelow}
use Rattle.gl_value.specs.Value.{undefined}
use Rattle.std.proofs.Common.{◌≡◌, ℕ, zero, suc, max, ◌<◌, ◌≤◌, List, [], ◌∷◌, ◌++◌, map, Option, Some, refl, sym, ◌∙◌, ap, subst, arith}
use Rattle.gl_base.specs.Texts.{Text}
use Rattle.gl_ast.specs.Template.{Exprs}
use Rattle.gl_meaning.specs.App.{App}
use Rattle.gl_meaning.specs.Scope.{Pair, NamedPairs, Scope, scope, with_locals, bind, sources_of}
use Rattle.gl_meaning.specs.Eval.{Store, eval_all}
use Rattle.gl_plain.specs.Ids.{a_ref, Id, ref, occurs, hit}
use Rattle.gl_plain.specs.State.{any_of, all_form, Row, Names, names_by, Inst, MScope, mscope, MPassed, passed_by, row, Thing, State, pair_of, make, note_evaluated, named_as, refs_of, constant_form}
use Rattle.gl_plain.specs.Binding.{BoundAll, bind_exprs, bind_params, Placed, place, new_ref}
use Rattle.gl_plain.specs.Stands.{CellsIn, Gives, SpottedIn, top, NamesBelow, From, SpotThing, Spotted, exprs_by}
use Rattle.gl_plain.specs.InScope.{InScope}
use Rattle.gl_plain.proofs.Moves.{Moves, is_old, owned_after, occurs_append, make_moves, make_at, recount, hit_self}
use Rattle.gl_plain.proofs.Pairs.{pairs_agree, scope_same, cells_same, names_append, names_by_append, names_below, scope_below, obeys_pairs, obeys_less, left_occurs, right_occurs}
use Rattle.gl_plain.proofs.Binding.{BindsAll, BindsNames, obeys_left, obeys_right, both_made, top_append, ids_below}
use Rattle.gl_plain.proofs.Bound.{made_below, bound_are, params_are}

pub noted : (st st' : State) (a a' : Id → ℕ) (r : ℕ) → Moves st st' a a' → Moves st (note_evaluated r st') a a'
noted st st' a a' r m = record { kept = m.kept; more = m.more; fewer = m.fewer; once = m.once; old = m.old; still = m.still; gone = m.gone; lower = m.lower }

-- a scope goes on while parts move that have none of its references
pub scope_goes : (app : App) (τ : Store) (b : ℕ) (st st' : State) (ms : MScope) (w : Scope) (a a' : Id → ℕ) → b ≤ st.next a_ref → From b a → Moves st st' a a'
    → InScope app τ b st.look ms w → InScope app τ b st'.look ms w
scope_goes app τ b st st' ms w a a' le from m h =
    let agree = pairs_agree st.look st'.look b (λ q lt. m.kept (ref q) (omega (arith, lt, le)) (from q lt)) in
    record {
      low = h.low;
      is = scope_same app b (pair_of st'.look) (pair_of st.look) agree ms h.low ∙ h.is;
      cells = cells_same app τ b (pair_of st'.look) (pair_of st.look) agree ms h.low h.cells;
    }

pub scope_grows : (app : App) (τ : Store) (b : ℕ) (st st' : State) (ms : MScope) (w : Scope) (c : Id → ℕ) → b ≤ st.next a_ref → Moves st st' (λ q. 0) c
    → InScope app τ b st.look ms w → InScope app τ b st'.look ms w
scope_grows app τ b st st' ms w c le m h = scope_goes app τ b st st' ms w (λ q. 0) c le (λ q lt. refl) m h

-- with further parameters
pub local_scope : (app : App) (τ : Store) (b b' : ℕ) (look : Id → Option Thing) (i : Inst) (a l : Names) (v : MPassed) (w : Scope) (names : Names) (more : NamedPairs)
    → b ≤ b' → NamesBelow b' names → names_by (pair_of look) names ≡ more → InScope app τ b look (mscope i a l v) w → InScope app τ b' look (mscope i a (l ++ names) v) (with_locals more w)
local_scope app τ b b' look i a l v w names more le low e h =
    let f = pair_of look in
    let up = scope_below app b b' le (mscope i a l v) h.low in
    record {
      low = (up.0, up.1, names_append b' l names up.2 low, up.3);
      is = ap (λ z. scope i.path (names_by f a) z (passed_by f v)) (names_by_append f l names ∙ ap (λ z. names_by f l ++ z) e) ∙ ap (with_locals more) h.is;
      cells = h.cells;
    }

-- parameters and their references
pub named_back : (ns : List Text) (rs : List ℕ) (st : State) → named_as ns (refs_of (bind_params ns rs st).names) ≡ (bind_params ns rs st).names
named_back [] rs st = refl
named_back (n ∷ ns) [] st = ap (λ (e : Names). (n, (new_ref (constant_form undefined) st).id) ∷ e) (named_back ns [] (new_ref (constant_form undefined) st).state)
named_back (n ∷ ns) (r ∷ rs) st = ap (λ (e : Names). (n, r) ∷ e) (named_back ns rs st)

-- parameters for the values of some references that were bound
pub params_bound : (app : App) (b : ℕ) (ms : MScope) (st : State) (x : BoundAll) (E : Store → (ℕ → Pair) → List Pair) (ns : List Text) → b ≤ st.next a_ref
    → BindsAll app b ms st x E → let y = bind_params ns x.ids x.state in
    BindsNames app b ms st (record { names = y.names; made = x.made ++ y.made; state = y.state }) (λ τ f. bind ns (E τ f))
params_bound app b ms st x E ns le h =
    let y = bind_params ns x.ids x.state in
    let b1 = max b (top x.made) in
    let le1 = made_below b st x.state x.made le h.moves in
    let k = params_are app b1 ms ns x.ids x.state le1 h.low in
    let t = top_append x.made y.made in
    record {
      moves = both_made st x.state y.state x.made y.made h.moves k.moves;
      gives = λ f τ ob c. k.gives f τ (obeys_right y.state.look x.made y.made f ob) c ∙ ap (bind ns) (h.gives f τ (obeys_left st x.state y.state x.made y.made f h.moves k.moves ob) c);
      low = names_below _ _ (omega (arith, t)) y.names k.low;
    }

-- A position is placed.

pub record PlacedIs (app : App) (b : ℕ) (ms : MScope) (st : State) (x : Placed) (E : Store → (ℕ → Pair) → List Pair) (ps : List Pair) : Type 0 where
  pub moves : Moves st x.state (λ q. 0) (λ q. occurs q x.spot.made)
  pub spotted : Spotted app x.state.look ms x.spot E ps
  pub shows : x.pairs ≡ ps

all_moves : (rs : List ℕ) (ps : List Pair) (st : State) → IdsBelow (st.next a_ref) rs → let r = st.next a_ref in
    Moves st (note_evaluated r (make a_ref (row (record { form = all_form rs; last = any_of (sources_of ps) })) st)) (λ q. 0) (λ q. occurs q (ref r ∷ []))
all_moves rs ps st fits =
    let r = st.next a_ref in let x = row (record { form = all_form rs; last = any_of (sources_of ps) }) in
    noted st (make a_ref x st) (λ q. 0) (λ q. occurs q (ref r ∷ [])) r
    (recount st (make a_ref x st) (λ q. 0) (λ q. 0) (λ q. occurs q (ref r ∷ [])) (λ q. hit q (ref r)) (λ q. refl) (λ q. omega arith) (make_moves a_ref x st fits))

pub place_is : (app : App) (τ : Store) (b : ℕ) (ms : MScope) (st : State) (x : BoundAll) (E : Store → (ℕ → Pair) → List Pair) (ps : List Pair)
    → BindsAll app b ms st x E → IdsBelow (x.state.next a_ref) x.ids → CellsIn app τ (pair_of x.state.look) ms → E τ (pair_of x.state.look) ≡ ps → PlacedIs app b ms st (place x) E ps
place_is app τ b ms st x E ps h fits c e =
    let r = x.state.next a_ref in
    let vs = map (pair_of x.state.look) x.ids in
    let y : Row = record { form = all_form x.ids; last = any_of (sources_of vs) } in
    let st' = note_evaluated r (make a_ref (row y) x.state) in
    let n = all_moves x.ids vs x.state fits in
    let made = x.made ++ ref r ∷ [] in
    let shows : vs ≡ ps = h.gives (pair_of x.state.look) τ (obeys_pairs x.state.look x.made) c ∙ e in
    record {
      moves = both_made st x.state st' x.made (ref r ∷ []) h.moves n;
      spotted = record {
        own = right_occurs (ref r) x.made (ref r ∷ []) (let k = hit_self (ref r) in omega (arith, k));
        is = subst (SpotThing app st'.look ms made E ps) (sym (make_at a_ref (row y) x.state)) (
          ap (λ us. Some (row (record { form = all_form x.ids; last = any_of (sources_of us) }))) shows,
          λ f ρ ob d. h.gives f ρ (obeys_left st x.state st' x.made (ref r ∷ []) f h.moves n ob) d,
        );
      };
      shows = shows;
    }

-- Where it reads what was made before it, too.

pub record PlacedIn (app : App) (ms : MScope) (more : List Id) (st : State) (x : Placed) (E : Store → (ℕ → Pair) → List Pair) (ps : List Pair) : Type 0 where
  pub moves : Moves st x.state (λ q. 0) (λ q. occurs q x.spot.made)
  pub spotted : SpottedIn app x.state.look ms more x.spot E ps
  pub shows : x.pairs ≡ ps

-- what was made before
abbrev pub Older : State → List Id → Type 0
Older st made = (q : Id) → 0 < occurs q made → q.num < st.next q.kind

pub older_still : (st st' : State) (made : List Id) (c : Id → ℕ) → Moves st st' (λ q. 0) c → Older st made → Older st' made
older_still st st' made c m o q w = let i = o q w in let j = m.more q in omega (arith, i, j)

pub older_stays : (st st' : State) (made : List Id) (c : Id → ℕ) → Moves st st' (λ q. 0) c → Older st made → (q : Id) → 0 < occurs q made → st'.look q ≡ st.look q
older_stays st st' made c m o q w = m.kept q (o q w) refl

pub place_in : (app : App) (τ : Store) (ms : MScope) (more : List Id) (st : State) (x : BoundAll) (E : Store → (ℕ → Pair) → List Pair) (ps : List Pair)
    → Moves st x.state (λ q. 0) (λ q. occurs q x.made) → Older x.state more → IdsBelow (x.state.next a_ref) x.ids → Gives app x.state.look (more ++ x.made) ms (λ f. map f x.ids) E
    → CellsIn app τ (pair_of x.state.look) ms → E τ (pair_of x.state.look) ≡ ps → PlacedIn app ms more st (place x) E ps
place_in app τ ms more st x E ps m older fits gives c e =
    let r = x.state.next a_ref in
    let vs = map (pair_of x.state.look) x.ids in
    let y : Row = record { form = all_form x.ids; last = any_of (sources_of vs) } in
    let st' = note_evaluated r (make a_ref (row y) x.state) in
    let n = all_moves x.ids vs x.state fits in
    let made = x.made ++ ref r ∷ [] in
    let shows : vs ≡ ps = gives (pair_of x.state.look) τ (obeys_pairs x.state.look (more ++ x.made)) c ∙ e in
    let own = is_old x.state (λ q. occurs q x.made) (owned_after st x.state (λ q. 0) (λ q. occurs q x.made) m) in
    record {
      moves = both_made st x.state st' x.made (ref r ∷ []) m n;
      spotted = record {
        own = right_occurs (ref r) x.made (ref r ∷ []) (let k = hit_self (ref r) in omega (arith, k));
        is = subst (SpotThing app st'.look ms (more ++ made) E ps) (sym (make_at a_ref (row y) x.state)) (
          ap (λ us. Some (row (record { form = all_form x.ids; last = any_of (sources_of us) }))) shows,
          λ f ρ ob d. gives f ρ (obeys_less x.state.look st'.look (more ++ x.made) (more ++ made) f (λ q w. within n own q w (occurs (ref q) more) refl) ob) d,
        );
      };
      shows = shows;
    }
  where
    within : {st2 : State} → Moves x.state st2 (λ q. 0) (λ q. occurs q (ref (x.state.next a_ref) ∷ [])) → ((q : Id) → 0 < occurs q x.made → q.num < x.state.next q.kind)
        → (q : ℕ) → 0 < occurs (ref q) (more ++ x.made) → (i : ℕ) → occurs (ref q) more ≡ i
        → (0 < occurs (ref q) (more ++ (x.made ++ ref (x.state.next a_ref) ∷ []))) × (st2.look (ref q) ≡ x.state.look (ref q))
    within n own q w zero e =
        let a = occurs_append (ref q) more x.made in
        let u : 0 < occurs (ref q) x.made = omega (arith, a, e, w) in
        (right_occurs (ref q) more (x.made ++ ref (x.state.next a_ref) ∷ []) (left_occurs (ref q) x.made (ref (x.state.next a_ref) ∷ []) u), n.kept (ref q) (own (ref q) u) refl)
    within n own q w (suc i) e =
        let u : 0 < occurs (ref q) more = omega (arith, e) in
        (left_occurs (ref q) more (x.made ++ ref (x.state.next a_ref) ∷ []) u, n.kept (ref q) (older (ref q) u) refl)

-- over some expressions
pub place_exprs : (app : App) (τ : Store) (b : ℕ) (ms : MScope) (w : Scope) (es : Exprs) (st : State) → b ≤ st.next a_ref → InScope app τ b st.look ms w
    → PlacedIs app b ms st (place (bind_exprs app ms es st)) (exprs_by app ms es) (eval_all app τ w es)
place_exprs app τ b ms w es st le s =
    let x = bind_exprs app ms es st in
    let h = bound_are app b ms s.low es st le in
    let s1 = scope_grows app τ b st x.state ms w (λ q. occurs q x.made) le h.moves s in
    place_is app τ b ms st x (exprs_by app ms es) (eval_all app τ w es) h (ids_below _ _ (made_below b st x.state x.made le h.moves) x.ids h.low) s1.cells (ap (λ z. eval_all app τ z es) s1.is)
