-- The words of an expression of a template push the reference that stands for it. A getter's program is run in a frame of its own.
use Rattle.std.proofs.Common.{◌≡◌, ℕ, zero, suc, List, [], ◌∷◌, ◌++◌, map, length, Bool, false, Option, Some, None, refl}
use Rattle.std.specs.Prelude.{slice_get}
use Rattle.gl_base.specs.Texts.{Text}
use Rattle.gl_value.specs.Value as va
use Rattle.gl_ast.specs.Template as t
use Rattle.gl_ast.specs.Template.{Plain, Expr, Exprs, NamedExprs}
use Rattle.gl_ops.specs.declared.op.Op.TheVariants as op
use Rattle.gl_meaning.specs.Eval.{Store, class_at}
use Rattle.gl_meaning.specs.Known.{mentions, Among}
use Rattle.gl_wire.specs.Symbols.{expr_symbols_of}
use Rattle.gl_opc.specs.Lowers.{LowersExpr}
use Rattle.gl_opc.specs.Spans.{LiteralAt, ExprAt, ExprsAt, NamedAt}
use Rattle.gl_plain.specs.Ids.{Id}
use Rattle.gl_plain.specs.State.{constant_form, Names, Inst, MScope, mscope, MPassed, mnothing, own, State}
use Rattle.gl_plain.specs.Naming.{Naming}
use Rattle.gl_plain.specs.Binding.{Bound, new_ref, bind_deep_as, getters_in, bind_expr_as, bind_exprs_as, bind_pairs_as}
use Rattle.gl_machine.specs.Sight.{Passing, not_passed}
use Rattle.gl_machine.specs.Params.{Known}
use Rattle.gl_machine.specs.Env.{Env, class_no, getter_no, program_no, symbols_at, texts_of, seen}
use Rattle.gl_machine.specs.Placed.{IsOf}
use Rattle.gl_machine.specs.Mach.{Pushed, Here, Back, Making, in_getter, Frame, Rest, mach, go}
use Rattle.gl_machine.specs.Step.{do_getter, Comes_as}
use Rattle.gl_machine.proofs.Sound.{Sound}
use Rattle.gl_machine.proofs.Runs.{on, at_op}
use Rattle.gl_machine.proofs.Stacks.{popped-last, unnamed, with_name}
use Rattle.gl_machine.proofs.Symbols.{known_none}
use Rattle.gl_machine.proofs.Levels.{Settles, settles}
use Rattle.gl_machine.proofs.Words.{within, pushed, IsGood, literal_pushes, expr_pushes, exprs_push, named_push}

module _ (naming : Naming) (env : Env) (store : Store) (sound : Sound env) (c : ℕ) (i : Inst) (a : Names) (is : IsOf env c i) where
  abbrev gs : List (Text × Expr)
  gs = (class_at env.app i.path).getters

  abbrev mine : MScope
  mine = mscope i a [] mnothing

  -- from any place of a program of the class
  abbrev Goes : ℕ → Expr → ℕ → Type 0
  Goes n e q =
      (g : Option ℕ) (symbols : List Text) (l : Names) (w : Passing) (pending : List ℕ) (h : Here) (k : Making) (left : ℕ) (fs : List Frame)
      (st : State) (stk : List Pushed) (made : List Id) (pc : ℕ)
      → let rest = within g symbols c i a l w pending h k left fs in let b = bind_deep_as naming (suc n) env.app mine e st in
      Comes_as naming env store (do_getter env store q (mach st stk made pc rest)) (go b.state (pushed stk b.id) (made ++ b.made) (suc pc) rest)

  abbrev Good : ℕ → Text → Type 0
  Good n x =
      (g : Option ℕ) (symbols : List Text) (l : Names) (v : MPassed) (w : Passing) (known : Known symbols (texts_of l)) (pending : List ℕ) (h : Here) (k : Making) (left : ℕ) (fs : List Frame)
      → IsGood naming env store (bind_deep_as naming n env.app mine) g symbols c i a l v w known is pending h k left fs x

  -- a getter's program in its frame, where those that it mentions go well
  in_frame : (n : ℕ) (e : Expr) (q : ℕ) → LowersExpr (getter_no env c q) e [] env.manifest (class_no env c) → ((x : Text) → Among x (mentions e) → Good n x) → Goes n e q
  in_frame n e q (last, at, at_done) good g symbols l w pending h k left fs st stk made pc =
      let rest = within g symbols c i a l w pending h k left fs in
      let b = bind_deep_as naming (suc n) env.app mine e st in
      let back : Back = record { getter = g; pc = suc pc; sight = rest.sight; pending = pending } in
      let frame : Frame = record { here = h; kind = in_getter back } in
      let inner = expr_symbols_of [] e in
      let fs' = fs ++ frame ∷ [] in
      on naming env store
      (expr_pushes naming env store (bind_deep_as naming n env.app mine) (Some q) inner c i a [] mnothing not_passed (known_none inner) is pending h k left fs' st stk made false 0 e last
      (λ x m. good x m (Some q) inner [] mnothing not_passed (known_none inner) pending h k left fs') at)
      (at_op naming env store b.state (pushed stk b.id) (made ++ b.made) last (within (Some q) inner c i a [] not_passed pending h k left fs') op.Done (length (getter_no env c q).words) at_done
      (λ m. go b.state (pushed stk b.id) (made ++ b.made) (suc pc) rest)
      (rw (popped-last fs frame) refl))

  lowered : (q : ℕ) (y : Text × Expr) → slice_get (class_no env c).getters q ≡ Some y → LowersExpr (getter_no env c q) y.1 [] env.manifest (class_no env c)
  lowered q y there = sound.getters c q y there

  getter_goes : (n : ℕ) (e : Expr) (q : ℕ) → Settles gs n e → LowersExpr (getter_no env c q) e [] env.manifest (class_no env c) → Goes n e q
  getter_goes zero e q settled low =
      in_frame zero e q low (λ x m g symbols l v w known pending h k left fs q' y there found. absurd (settled x y.1 m found))
  getter_goes (suc n) e q settled low =
      in_frame (suc n) e q low
      (λ x m g symbols l v w known pending h k left fs q' y there found st stk made pc.
      getter_goes n y.1 q' (settled x y.1 m found) (lowered q' y there) g symbols l w pending h k left fs st stk made pc)

  all_good : (n : ℕ) (e : Expr) → Settles gs n e → (x : Text) → Among x (mentions e) → Good n x
  all_good zero e settled x m g symbols l v w known pending h k left fs q y there found = absurd (settled x y.1 m found)
  all_good (suc n) e settled x m g symbols l v w known pending h k left fs q y there found =
      λ st stk made pc. getter_goes n y.1 q (settled x y.1 m found) (lowered q y there) g symbols l w pending h k left fs st stk made pc

  pub good_from : (e : Expr) (x : Text) → Among x (mentions e) → Good (length gs) x
  good_from e = all_good (length gs) e (settles (class_at env.app i.path) (sound.calm i.path) e)

-- where the machine is in the program of a class's template
abbrev pub room : Env → ℕ → Inst → Names → Names → MPassed → Passing → List ℕ → Here → Making → ℕ → List Frame → Rest
room env c i a l v w pending h k left fs =
    record { getter = None; sight = seen env c (mscope i a l v) w; pending = pending; here = h; making = k; left = left; frames = fs }

module _ (naming : Naming) (env : Env) (store : Store) (sound : Sound env)
    (c : ℕ) (i : Inst) (a l : Names) (v : MPassed) (w : Passing) (known : Known (symbols_at env c) (texts_of l)) (is : IsOf env c i)
    (pending : List ℕ) (h : Here) (k : Making) (left : ℕ) (fs : List Frame) where
  abbrev rest : Rest
  rest = room env c i a l v w pending h k left fs

  abbrev ms : MScope
  ms = mscope i a l v

  abbrev symbols : List Text
  symbols = symbols_at env c

  abbrev getter : Expr → State → Bound
  getter = bind_deep_as naming (getters_in env.app ms) env.app (own ms)

  good : (e : Expr) (x : Text) → Among x (mentions e) → IsGood naming env store getter None symbols c i a l v w known is pending h k left fs x
  good e x m = good_from naming env store sound c i a is e x m None symbols l v w known pending h k left fs

  pub literal_comes : (st : State) (stk : List Pushed) (made : List Id) (from : ℕ) (x : Plain) (to : ℕ) → LiteralAt (program_no env c) env.manifest (class_no env c) symbols from x to
      → (let b = new_ref (constant_form (va.plain x)) st in Comes_as naming env store (go st stk made from rest) (go b.state (pushed stk b.id) (made ++ b.made) to rest))
  literal_comes = literal_pushes naming env store getter None symbols c i a l v w known is pending h k left fs

  pub expr_comes : (st : State) (stk : List Pushed) (made : List Id) (whole : Bool) (from : ℕ) (e : Expr) (to : ℕ)
      → ExprAt (program_no env c) env.manifest (class_no env c) symbols whole (texts_of l) from e to
      → (let b = bind_expr_as naming env.app ms e st in Comes_as naming env store (go st stk made from rest) (go b.state (pushed stk b.id) (made ++ b.made) to rest))
  expr_comes st stk made whole from e to at =
      expr_pushes naming env store getter None symbols c i a l v w known is pending h k left fs st stk made whole from e to (good e) at

  pub exprs_come : (st : State) (stk : List Pushed) (made : List Id) (whole : Bool) (from : ℕ) (es : Exprs) (to : ℕ)
      → ExprsAt (program_no env c) env.manifest (class_no env c) symbols whole (texts_of l) from es to
      → (let x = bind_exprs_as naming env.app ms es st in Comes_as naming env store (go st stk made from rest) (go x.state (stk ++ map unnamed x.ids) (made ++ x.made) to rest))
  exprs_come st stk made whole from es to at =
      exprs_push naming env store getter None symbols c i a l v w known is pending h k left fs st stk made whole from es to (good (t.cat es)) at

  pub named_come : (st : State) (stk : List Pushed) (made : List Id) (from : ℕ) (ns : NamedExprs) (to : ℕ)
      → NamedAt (program_no env c) env.manifest (class_no env c) symbols (texts_of l) from ns to
      → (let x = bind_pairs_as naming env.app ms ns st in Comes_as naming env store (go st stk made from rest) (go x.state (stk ++ map with_name x.names) (made ++ x.made) to rest))
  named_come st stk made from ns to at =
      named_push naming env store getter None symbols c i a l v w known is pending h k left fs st stk made from ns to (good (t.call [] t.no_exprs ns)) at
