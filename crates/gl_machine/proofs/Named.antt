-- The recorded scopes name what is the page's.
use Rattle.std.proofs.Common.{◌≡◌, ◌<◌, ℕ, zero, suc, ◌+◌, List, [], ◌∷◌, true, false, Option, Some, None, refl, sym, ap, ap₂, ◌∙◌, subst, arith, inl, inr, ◌⊎◌}
use Rattle.gl_base.specs.Texts.{Text}
use Rattle.gl_value.specs.Value.{Values, no_values, value}
use Rattle.gl_ast.specs.Template as t
use Rattle.gl_meaning.specs.Path.{at, main, otherwise, items, item, into, slot, Path}
use Rattle.gl_meaning.specs.Scope.{Scope}
use Rattle.gl_meaning.specs.Eval.{Store, class_at}
use Rattle.gl_meaning.specs.Render.{Entry, Block, block_named}
use Rattle.gl_plain.specs.Ids.{Id, block_id, instance_id, hit, occurs}
use Rattle.gl_plain.specs.State.{Names, Inst, MScope, mscope, MPassed, mnothing, mpassed, passed_in, mslots, mwriter, named_as, with_names, Thing}
use Rattle.gl_plain.specs.Live.{ItemSpot, item_made, item_names, times, times_in, times_items}
use Rattle.gl_plain.specs.Stands.{WhereValues, WhereBlock, Stands, StandIn, ItemsStand, BlockStands, ListStands, ElseStands}
use Rattle.gl_plain.specs.Machine.{RootStands}
use Rattle.gl_plain.proofs.Moves.{hit_means}
use Rattle.gl_plain.proofs.Stay.{left_above, right_above}
use Rattle.gl_machine.specs.Sight.{Sight, Passing, not_passed}
use Rattle.gl_machine.specs.Code.{Code, still_code, put_code, element_code, branch_code, listed_code, unlisted_code, let_code, component_code, yield_code, ItemCodes, no_item_codes, item_code, Codes, no_codes, code_and, live_of, items_of, lives_of}
use Rattle.gl_machine.specs.Env.{Env, seen}
use Rattle.gl_machine.specs.Placed.{Matches, Fits, WhereFound, Placed, PlacedIn, PlacedItems}
use Rattle.gl_machine.specs.Root.{PlacedRoot}
use Rattle.gl_machine.specs.Scopes.{named_in, named_passing, named_scope, named_passed, EachSight, EachSightOf, EachSightIn, SightsNameOwn, PageNamesOwn}

-- Of each sight in more

module _ (P Q : Sight → Type 0) (f : (z : Sight) → P z → Q z) where
  mutual
    pub each_more : (k : Code) → EachSight P k → EachSight Q k
    each_more (still_code n) h = tt
    each_more (put_code n x) h = tt
    each_more (element_code n made xs zs cs) h = each_more_in cs h
    each_more (branch_code z x u k cs) h = (f z.sight h.0, each_more_in cs h.1)
    each_more (listed_code z x is) h = (f z.sight h.0, each_more_of is h.1)
    each_more (unlisted_code z x k cs) h = (f z.sight h.0, each_more_in cs h.1)
    each_more (let_code made rs cs) h = each_more_in cs h
    each_more (component_code i made gm args k cs) h = each_more_in cs h
    each_more (yield_code n made rs cs) h = each_more_in cs h

    pub each_more_of : (is : ItemCodes) → EachSightOf P is → EachSightOf Q is
    each_more_of no_item_codes h = tt
    each_more_of (item_code z k cs is) h = (each_more_in cs h.0, each_more_of is h.1)

    pub each_more_in : (cs : Codes) → EachSightIn P cs → EachSightIn Q cs
    each_more_in no_codes h = tt
    each_more_in (code_and k ks) h = (each_more k h.0, each_more_in ks h.1)

-- What a sight names is what the scope names that it is of.

module _ (env : Env) (q : Id) where
  mutual
    passing_names : (w : Passing) (v : MPassed) → Matches env w v → named_passing q w ≡ named_passed q v
    passing_names w mnothing h = ap (named_passing q) h
    passing_names w (mpassed k ps bs (mscope i a l v)) (c, parts, last, next, o, slots, u, e, known, is, h, there, ends, word, blocks) =
        ap (named_passing q) e ∙ ap (λ n. hit q (block_id k) + (hit q (instance_id i.id) + n)) (passing_names u v h)

seen_names : (env : Env) (q : Id) (c : ℕ) (ms : MScope) (w : Passing) → Fits env c ms w → named_in q (seen env c ms w) ≡ named_scope q ms
seen_names env q c (mscope i a l v) w h = ap (λ n. hit q (instance_id i.id) + n) (passing_names env q w v h.passes)

more_names : (q : Id) (names : Names) (ms : MScope) → named_scope q (with_names names ms) ≡ named_scope q ms
more_names q names (mscope i a l v) = refl

-- who wrote what was passed names no more
writer_names : (q : Id) (ms : MScope) (n : Text) (b : Block) → block_named n (mslots (passed_in ms)) ≡ Some b → 0 < named_scope q (mwriter (passed_in ms)) → 0 < named_scope q ms
writer_names q (mscope i a l mnothing) n b e h = absurd (none_there b e) where
  none_there : (b : Block) → None ≡ Some b → ⊥
  none_there b e = cc
writer_names q (mscope i a l (mpassed k ps bs s)) n b e h = right_above (hit q (instance_id i.id)) _ (right_above (hit q (block_id k)) (named_scope q s) h)

-- an id that was made, by its hit
made_above : (q r : Id) (made : List Id) → 0 < occurs r made → 0 < hit q r → 0 < occurs q made
made_above q r made h n = subst (λ i. 0 < occurs i made) (sym (hit_means q r n)) h

-- which of three it is
one_of : (a b c : ℕ) → 0 < a + (b + c) → (0 < a) ⊎ ((0 < b) ⊎ (0 < c))
one_of (suc a) b c h = inl (omega arith)
one_of zero (suc b) c h = inr (inl (omega arith))
one_of zero zero c h = inr (inr (omega (arith, h)))

-- A component's scope names its instance, its block and what the scope around names.
below_names : (i : Inst) (k : ℕ) (ms : MScope) (made : List Id) (q : Id) → 0 < occurs (instance_id i.id) made → 0 < occurs (block_id k) made → (n : ℕ)
    → 0 < hit q (instance_id i.id) + (hit q (block_id k) + named_scope q ms) → (0 < named_scope q ms) ⊎ (0 < occurs q made + n)
below_names i k ms made q a b n h =
    elim (one_of (hit q (instance_id i.id)) (hit q (block_id k)) (named_scope q ms) h) [
      | inl j ↦ inr (left_above _ n (made_above q (instance_id i.id) made a j))
      | inr j ↦ elim j [ inl o ↦ inr (left_above _ n (made_above q (block_id k) made b o)) | inr o ↦ inl o ]
    ]

module _ (env : Env) where
  -- What a sight names is in the scope around or is counted.
  abbrev Own : MScope → (Id → ℕ) → Sight → Type 0
  Own ms count z = (q : Id) → 0 < named_in q z → (0 < named_scope q ms) ⊎ (0 < count q)

  here : (c : ℕ) (ms : MScope) (w : Passing) (count : Id → ℕ) (z : Sight) → z ≡ seen env c ms w → Fits env c ms w → Own ms count z
  here c ms w count z e h q n = inl (subst (λ k. 0 < k) (ap (named_in q) e ∙ seen_names env q c ms w h) n)

  -- of the same scope, counted in more
  wider : (ms : MScope) (a b : Id → ℕ) → ((q : Id) → 0 < a q → 0 < b q) → (z : Sight) → Own ms a z → Own ms b z
  wider ms a b f z h q n = elim (h q n) [ inl k ↦ inl k | inr k ↦ inr (f q k) ]

  -- of a scope whose names are in this one, or are counted
  inner : (ms ms' : MScope) (a b : Id → ℕ) → ((q : Id) → 0 < named_scope q ms' → (0 < named_scope q ms) ⊎ (0 < b q)) → ((q : Id) → 0 < a q → 0 < b q) → (z : Sight) → Own ms' a z → Own ms b z
  inner ms ms' a b g f z h q n = elim (h q n) [ inl k ↦ g q k | inr k ↦ inr (f q k) ]

  module _ (σ τ : Store) (look : Id → Option Thing) where
    list_own : (us : Values Path) (P : Values Path → Type 0) (Q : Type 0) → ((us : Values Path) → P us → Q) → WhereValues us P ⊥ → Q
    list_own no_values P Q f h = absurd h
    list_own (value v us) P Q f h = f (value v us) h

    else_own : (us : Values Path) (P Q : Type 0) → (P → Q) → WhereValues us (λ z. ⊥) P → Q
    else_own no_values P Q f h = f h
    else_own (value v us) P Q f h = absurd h

    block_own : (o : Option Block) (P S : Block → Type 0) (Q : Sight → Type 0) (cs : Codes) → ((b : Block) → o ≡ Some b → P b → S b → EachSightIn Q cs) → WhereFound o P (cs ≡ no_codes) → WhereBlock o S (lives_of cs ≡ Rattle.gl_plain.specs.Live.no_lives)
        → EachSightIn Q cs
    block_own None P S Q cs f h g = subst (EachSightIn Q) (sym h) tt
    block_own (Some b) P S Q cs f h g = f b refl h g

    mutual
      stmt_own : (m b c : ℕ) (s : Scope) (ms : MScope) (w : Passing) (p : Path) (x : t.Stmt) (k : Code) → Placed env c ms w p x k → Stands env.app σ τ look m b s ms p x (live_of k)
          → EachSight (Own ms (λ q. times q (live_of k))) k
      stmt_own m b c s ms w p (t.text_stmt u) (still_code n) h g = tt
      stmt_own m b c s ms w p (t.comment_stmt u) (still_code n) h g = tt
      stmt_own m b c s ms w p (t.put e) (put_code n x) h g = tt
      stmt_own m b c s ms w p (t.element tag ps d) (element_code n made xs zs cs) h g =
          each_more_in _ _ (wider ms (λ q. times_in q (lives_of cs)) (λ q. times q (live_of (element_code n made xs zs cs))) (λ q k. right_above _ _ (left_above _ _ k))) cs (body_own m b c s ms w p 0 d cs h g.3)
      stmt_own m b c s ms w p (t.if_stmt e u d f) (branch_code z x true k cs) h g = (
        here c ms w _ z.sight h.0.1 h.0.2,
        each_more_in _ _ (wider ms (λ q. times_in q (lives_of cs)) (λ q. times q (live_of (branch_code z x true k cs))) (λ q n. right_above _ _ (left_above _ _ n))) cs (body_own m b c s ms w (main ∷ p) 0 d cs h.1 g.3),
      )
      stmt_own m b c s ms w p (t.if_stmt e u d f) (branch_code z x false k cs) h g = (
        here c ms w _ z.sight h.0.1 h.0.2,
        each_more_in _ _ (wider ms (λ q. times_in q (lives_of cs)) (λ q. times q (live_of (branch_code z x false k cs))) (λ q n. right_above _ _ (left_above _ _ n))) cs (body_own m b c s ms w (otherwise ∷ p) 0 f cs h.1 g.3),
      )
      stmt_own m b c s ms w p (t.each e key ns d f) (listed_code z x is) h g = (
        here c ms w _ z.sight h.0.4 h.0.5,
        each_more_of _ _ (wider ms (λ q. times_items q (items_of is)) (λ q. times q (live_of (listed_code z x is))) (λ q n. right_above _ _ n)) is
            (list_own _ (ListStands env.app σ τ look m b s ms p key ns d (items_of is)) (EachSightOf (Own ms (λ q. times_items q (items_of is))) is) (λ us i. items_own m b c s ms w (items ∷ p) ns d _ is h.1 i) g.1),
      )
      stmt_own m b c s ms w p (t.each e key ns d f) (unlisted_code z x k cs) h g = (
        here c ms w _ z.sight h.0.4 h.0.5,
        each_more_in _ _ (wider ms (λ q. times_in q (lives_of cs)) (λ q. times q (live_of (unlisted_code z x k cs))) (λ q n. right_above _ _ (left_above _ _ n))) cs
            (else_own _ (ElseStands env.app σ τ look m b s ms p f k (lives_of cs)) (EachSightIn (Own ms (λ q. times_in q (lives_of cs))) cs) (λ i. body_own m b c s ms w (otherwise ∷ p) 0 f cs h.1 i.1) g.1),
      )
      stmt_own m b c s ms w p (t.let_stmt es ns d) (let_code made rs cs) h g =
          each_more_in _ _ (inner ms (with_names (named_as ns rs) ms) (λ q. times_in q (lives_of cs)) (λ q. times q (live_of (let_code made rs cs))) (λ q n. inl (subst (λ k. 0 < k) (more_names q (named_as ns rs) ms) n)) (λ q n. right_above _ _ n)) cs
          (body_own m _ c _ (with_names (named_as ns rs) ms) w (main ∷ p) 0 d cs h g.3)
      stmt_own (suc m) b c s ms w p (t.component_stmt n ps given bs) (component_code i made gm args (Some k) cs) (q', u, e, h) g =
          each_more_in _ _ (inner ms (mscope i args [] (mpassed k ps bs ms)) (λ q. times_in q (lives_of cs)) (λ q. times q (live_of (component_code i made gm args (Some k) cs)))
          (λ q n. below_names i k ms made q g.1.0 (g.3.0 (block_id k) g.0.0) (times_in q (lives_of cs)) n) (λ q n. right_above _ _ n)) cs
          (body_own m _ q' _ (mscope i args [] (mpassed k ps bs ms)) u (into n ∷ p) 0 (class_at env.app (into n ∷ p)).template cs h g.7)
      stmt_own zero b c s ms w p (t.component_stmt n ps given bs) (component_code i made gm args (Some k) cs) h g = absurd g
      stmt_own m b c s ms w p (t.yield es n) (yield_code k made rs cs) h g =
          block_own (block_named n (mslots (passed_in ms))) _ (BlockStands env.app σ τ look m b s ms p es n made rs (lives_of cs)) (Own ms (λ q. times q (live_of (yield_code k made rs cs)))) cs
          (λ d e f i. each_more_in _ _
          (inner ms (with_names (named_as d.params rs) (mwriter (passed_in ms))) (λ q. times_in q (lives_of cs)) (λ q. times q (live_of (yield_code k made rs cs)))
          (λ q j. inl (writer_names q ms n d e (subst (λ z. 0 < z) (more_names q (named_as d.params rs) (mwriter (passed_in ms))) j))) (λ q j. right_above _ _ j)) cs
          (body_own m _ f.0 _ (with_names (named_as d.params rs) (mwriter (passed_in ms))) f.1 (slot n ∷ p) 0 d.body cs f.2 i.3))
          h.1 g.1
      stmt_own m b c s ms w p _ _ h g = absurd h

      body_own : (m b c : ℕ) (s : Scope) (ms : MScope) (w : Passing) (p : Path) (i : ℕ) (d : t.Body) (cs : Codes) → PlacedIn env c ms w p i d cs → StandIn env.app σ τ look m b s ms p i d (lives_of cs)
          → EachSightIn (Own ms (λ q. times_in q (lives_of cs))) cs
      body_own m b c s ms w p i t.end no_codes h g = tt
      body_own m b c s ms w p i (t.stmt x d) (code_and k ks) h g = (
        each_more _ _ (wider ms (λ q. times q (live_of k)) (λ q. times_in q (lives_of (code_and k ks))) (λ q n. left_above _ _ n)) k (stmt_own m b c s ms w (at i ∷ p) x k h.0 g.0),
        each_more_in _ _ (wider ms (λ q. times_in q (lives_of ks)) (λ q. times_in q (lives_of (code_and k ks))) (λ q n. right_above _ _ n)) ks (body_own m b c s ms w p (suc i) d ks h.1 g.1),
      )
      body_own m b c s ms w p i _ _ h g = absurd h

      items_own : (m b c : ℕ) (s : Scope) (ms : MScope) (w : Passing) (p : Path) (ns : List Text) (d : t.Body) (xs : List Entry) (is : ItemCodes) → PlacedItems env c ms w p ns d is
          → ItemsStand env.app σ τ look m b s ms p ns d xs (items_of is) → EachSightOf (Own ms (λ q. times_items q (items_of is))) is
      items_own m b c s ms w p ns d [] no_item_codes h g = tt
      items_own m b c s ms w p ns d (x ∷ xs) (item_code z k cs is) h g = (
        each_more_in _ _
            (inner ms (with_names (item_names ns z) ms) (λ q. times_in q (lives_of cs)) (λ q. times_items q (items_of (item_code z k cs is))) (λ q n. inl (subst (λ j. 0 < j) (more_names q (item_names ns z) ms) n))
            (λ q n. left_above _ _ (right_above _ _ (left_above _ _ n)))) cs
            (body_own m _ c _ (with_names (item_names ns z) ms) w (item x.key x.occurrence ∷ p) 0 d cs (subst (λ j. PlacedIn env c (with_names (item_names ns z) ms) w j 0 d cs) (ap₂ (λ a n. item a n ∷ p) g.0.0 g.0.1) h.0) g.4),
        each_more_of _ _ (wider ms (λ q. times_items q (items_of is)) (λ q. times_items q (items_of (item_code z k cs is))) (λ q n. right_above _ _ n)) is (items_own m b c s ms w p ns d xs is h.1 g.5),
      )
      items_own m b c s ms w p ns d _ _ h g = absurd g

pub sights_name_own : SightsNameOwn
sights_name_own env σ τ look m b c s ms w p x k h g = stmt_own env σ τ look m b c s ms w p x k h g

root_own : (env : Env) (σ τ : Store) (look : Id → Option Thing) (m : ℕ) (k : Code) → PlacedRoot env k → RootStands env.app σ τ look m (live_of k)
    → EachSight (λ z. (q : Id) → 0 < named_in q z → 0 < times q (live_of k)) k
root_own env σ τ look (suc m) (component_code i made gm args None cs) (c, h) g =
    each_more_in _ _ (λ z f q n. elim (f q n) [ inl k ↦ left_above _ _ (made_above q (instance_id i.id) made g.0.0 (root_name i args q k)) | inr k ↦ right_above _ _ k ]) cs
    (body_own env σ τ look m _ c _ (mscope i args [] mnothing) not_passed [] 0 (class_at env.app []).template cs h g.5)
  where
    root_name : (i : Inst) (args : Names) (q : Id) → 0 < named_scope q (mscope i args [] mnothing) → 0 < hit q (instance_id i.id)
    root_name i args q n = omega (arith, n)
root_own env σ τ look zero (component_code i made gm args None cs) h g = absurd g
root_own env σ τ look m _ h g = absurd h

pub page_names_own : PageNamesOwn
page_names_own env σ τ st k h g = root_own env σ τ st.look env.app.limit k h g.stands
