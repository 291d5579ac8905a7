-- Where a machine stands for a rendering that fits, components nest no deeper than they may.
use Rattle.std.proofs.Common.{◌≡◌, ℕ, zero, suc, List, [], ◌∷◌, Bool, true, false, ◌||◌, Option, Some, None, refl, sym, subst}
use Rattle.std.proofs.lemmas.Bool.{both_ways}
use Rattle.gl_base.specs.Texts.{Text}
use Rattle.gl_value.specs.Value.{Values, no_values, value}
use Rattle.gl_ast.specs.Template.{Stmt, element, component_stmt, if_stmt, each, let_stmt, yield, Body, end, stmt}
use Rattle.gl_meaning.specs.App.{App}
use Rattle.gl_meaning.specs.Path.{Path}
use Rattle.gl_meaning.specs.Scope.{Scope}
use Rattle.gl_meaning.specs.Eval.{Store}
use Rattle.gl_meaning.specs.Render.{Entry, Block}
use Rattle.gl_plain.specs.Ids.{Id}
use Rattle.gl_plain.specs.State.{MScope, Thing}
use Rattle.gl_plain.specs.Live.{Live, still, put_live, element_live, branch_live, listed, unlisted, let_live, component_live, yield_live, deep_live, Items, no_items, item_live, Lives, no_lives, live_and, is_deep, items_deep, are_deep}
use Rattle.gl_plain.specs.Stands.{WhereValues, WhereBlock, Stands, StandIn, ItemsStand, ListStands, ElseStands, BlockStands}
use Rattle.gl_plain.specs.Machine.{RootStands}
use Rattle.gl_machine.specs.Nesting.{Nests, NestsIn, NestsItems}
use Rattle.gl_machine.specs.Laws.{StandingNests}

neither : (a b : Bool) → (a || b) ≡ false → (a ≡ false) × (b ≡ false)
neither true b e = absurd (both_ways _ e refl)
neither false b e = (refl, e)

some_values : (vs : Values Path) (P : Values Path → Type 0) (Q : Type 0) → WhereValues vs P ⊥ → ((us : Values Path) → P us → Q) → Q
some_values no_values P Q h f = absurd h
some_values (value v vs) P Q h f = f (value v vs) h

none_values : (vs : Values Path) (P Q : Type 0) → WhereValues vs (λ us. ⊥) P → (P → Q) → Q
none_values no_values P Q h f = f h
none_values (value v vs) P Q h f = absurd h

some_block : (o : Option Block) (P : Block → Type 0) (Q R : Type 0) → WhereBlock o P Q → ((b : Block) → P b → R) → (Q → R) → R
some_block None P Q R h f g = g h
some_block (Some b) P Q R h f g = f b h

module _ (app : App) (σ τ : Store) (look : Id → Option Thing) where
  mutual
    nests_of : (m b : ℕ) (s : Scope) (ms : MScope) (p : Path) (x : Stmt) (l : Live) → Stands app σ τ look m b s ms p x l → is_deep l ≡ false → Nests l m
    nests_of m b s ms p x (still n) h d = record {}
    nests_of m b s ms p x (put_live n z) h d = record {}
    nests_of m b s ms p (element tag ps c) (element_live n made xs zs ls) h d = nest_in m b s ms p 0 c ls h.3 d
    nests_of zero b s ms p (component_stmt c ps given bs) (element_live n made xs zs ls) h d = absurd h
    nests_of (suc m) b s ms p (component_stmt c ps given bs) (element_live n made xs zs ls) h d = absurd h
    nests_of m b s ms p _ (element_live n made xs zs ls) h d = absurd h
    nests_of m b s ms p (if_stmt e unless c c') (branch_live z true k ls) h d = nest_in m b s ms _ 0 c ls h.3 d
    nests_of m b s ms p (if_stmt e unless c c') (branch_live z false k ls) h d = nest_in m b s ms _ 0 c' ls h.3 d
    nests_of zero b s ms p (component_stmt c ps given bs) (branch_live z u k ls) h d = absurd h
    nests_of (suc m) b s ms p (component_stmt c ps given bs) (branch_live z u k ls) h d = absurd h
    nests_of m b s ms p _ (branch_live z u k ls) h d = absurd h
    nests_of m b s ms p (each e k ns c c') (listed z is) h d = some_values _ (ListStands app σ τ look m b s ms p k ns c is) (NestsItems is m) h.1 (λ vs i. nest_items m b s ms _ ns c _ is i d)
    nests_of zero b s ms p (component_stmt c ps given bs) (listed z is) h d = absurd h
    nests_of (suc m) b s ms p (component_stmt c ps given bs) (listed z is) h d = absurd h
    nests_of m b s ms p _ (listed z is) h d = absurd h
    nests_of m b s ms p (each e k ns c c') (unlisted z o ls) h d = none_values _ (ElseStands app σ τ look m b s ms p c' o ls) (NestsIn ls m) h.1 (λ i. nest_in m b s ms _ 0 c' ls i.1 d)
    nests_of zero b s ms p (component_stmt c ps given bs) (unlisted z o ls) h d = absurd h
    nests_of (suc m) b s ms p (component_stmt c ps given bs) (unlisted z o ls) h d = absurd h
    nests_of m b s ms p _ (unlisted z o ls) h d = absurd h
    nests_of m b s ms p (let_stmt es ns c) (let_live made rs ls) h d = nest_in m _ _ _ _ 0 c ls h.3 d
    nests_of zero b s ms p (component_stmt c ps given bs) (let_live made rs ls) h d = absurd h
    nests_of (suc m) b s ms p (component_stmt c ps given bs) (let_live made rs ls) h d = absurd h
    nests_of m b s ms p _ (let_live made rs ls) h d = absurd h
    nests_of zero b s ms p (component_stmt c ps given bs) (component_live i made gm args k ls) h d = absurd h
    nests_of zero b s ms p _ (component_live i made gm args k ls) h d = absurd h
    nests_of (suc m) b s ms p (component_stmt c ps given bs) (component_live i made gm args (Some k) ls) h d = nest_in m _ _ _ _ 0 _ ls h.7 d
    nests_of (suc m) b s ms p _ (component_live i made gm args k ls) h d = absurd h
    nests_of m b s ms p (yield es n) (yield_live k made rs ls) h d =
        some_block _ (BlockStands app σ τ look m b s ms p es n made rs ls) (ls ≡ no_lives) (NestsIn ls m) h.1 (λ c i. nest_in m _ _ _ _ 0 c.body ls i.3 d) (λ e. subst (λ ks. NestsIn ks m) (sym e) (record {}))
    nests_of zero b s ms p (component_stmt c ps given bs) (yield_live k made rs ls) h d = absurd h
    nests_of (suc m) b s ms p (component_stmt c ps given bs) (yield_live k made rs ls) h d = absurd h
    nests_of m b s ms p _ (yield_live k made rs ls) h d = absurd h
    nests_of m b s ms p x (deep_live q) h d = record {}

    pub nest_in : (m b : ℕ) (s : Scope) (ms : MScope) (p : Path) (i : ℕ) (c : Body) (ls : Lives) → StandIn app σ τ look m b s ms p i c ls → are_deep ls ≡ false → NestsIn ls m
    nest_in m b s ms p i c no_lives h d = record {}
    nest_in m b s ms p i (stmt x c) (live_and l ls) h d =
        let (e, es) = neither (is_deep l) (are_deep ls) d in (nests_of m b s ms _ x l h.0 e, nest_in m b s ms p (suc i) c ls h.1 es)
    nest_in m b s ms p i end (live_and l ls) h d = absurd h

    nest_items : (m b : ℕ) (s : Scope) (ms : MScope) (p : Path) (ns : List Text) (c : Body) (xs : List Entry) (is : Items) → ItemsStand app σ τ look m b s ms p ns c xs is → items_deep is ≡ false → NestsItems is m
    nest_items m b s ms p ns c xs no_items h d = record {}
    nest_items m b s ms p ns c (x ∷ xs) (item_live z o ls is) h d =
        let (e, es) = neither (are_deep ls) (items_deep is) d in (nest_in m _ _ _ _ 0 c ls h.4 e, nest_items m b s ms p ns c xs is h.5 es)
    nest_items m b s ms p ns c [] (item_live z o ls is) h d = absurd h

  root_nests : (m : ℕ) (l : Live) → RootStands app σ τ look m l → is_deep l ≡ false → Nests l m
  root_nests (suc m) (component_live i made gm args None ls) h d = nest_in m _ _ _ _ 0 _ ls h.5 d
  root_nests (suc m) (component_live i made gm args (Some k) ls) h d = absurd h
  root_nests zero (component_live i made gm args k ls) h d = absurd h
  root_nests m (deep_live q) h d = record {}
  root_nests (suc m) _ h d = absurd h
  root_nests zero _ h d = absurd h

pub standing_nests : StandingNests
standing_nests app σ τ st l stands fine = root_nests app σ τ st.look app.limit l stands.stands fine
