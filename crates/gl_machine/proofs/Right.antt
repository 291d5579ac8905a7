-- The machine, run from a recorded address for so many steps, appends what the tree says, where it ends; and with enough steps it ends.
use Rattle.std.proofs.Common.{◌≡◌, ◌≤◌, ℕ, zero, suc, [], false, refl, sym, ◌∙◌, ap, subst, arith}
use Rattle.gl_ast.specs.Template.{Body}
use Rattle.gl_meaning.specs.Path.{Path}
use Rattle.gl_program.specs.Program.{Stands}
use Rattle.gl_ops.specs.declared.op.Op.{Op}
use Rattle.gl_ops.specs.declared.op.Op.TheVariants as op
use Rattle.gl_meaning.specs.Eval.{Store}
use Rattle.gl_plain.specs.State as s
use Rattle.gl_plain.specs.State.{Names, Inst, MScope, mscope, MPassed, State}
use Rattle.gl_plain.specs.Naming.{Naming}
use Rattle.gl_plain.specs.Live.{Lives, are_deep}
use Rattle.gl_plain.specs.Grow.{grow_body_as, grow_yields_as, grow_components_as}
use Rattle.gl_plain.specs.Renew.{fresh_body_as}
use Rattle.gl_machine.specs.Sight.{Passing}
use Rattle.gl_machine.specs.Code.{Codes, lives_of}
use Rattle.gl_machine.specs.Outcome.{Outcome, ok, deep, lost, Ends}
use Rattle.gl_machine.specs.RenewCode.{start}
use Rattle.gl_machine.specs.Env.{Env, program_no, texts_of, seen}
use Rattle.gl_machine.specs.Placed.{Closes, BodyThere, Fits, PlacedIn, FollowsIn, RunsRight_as, RunsEnd}
use Rattle.gl_machine.specs.Mach.{Here, idle, Mach, Run, going, finished, too_deep, stuck, mach, go, fresh}
use Rattle.gl_machine.specs.Step.{step_run_as, Comes_as, here, more, after_as, begun, outcome, run_for_as}
use Rattle.gl_machine.proofs.Runs.{adds, closed_codes, on, onward, at_op, one_end, Goes, stops, ends}
use Rattle.gl_machine.proofs.Sound.{Sound}
use Rattle.gl_machine.proofs.Getters.{room}
use Rattle.gl_machine.proofs.Spreads.{spreads_go}
use Rattle.gl_machine.proofs.Bodies.{body_goes}
use Rattle.gl_machine.proofs.Layers.{yields_go, components_go}

pub deep_told : {A : Type 0} → ◌≡◌ {A = Outcome A} deep lost → ⊥
deep_told e = cc

pub ok_told : {A : Type 0} (x : A) → ok x ≡ lost → ⊥
ok_told x e = cc

module _ (naming : Naming) (env : Env) (store : Store) where
  comes_after : (n : ℕ) (a r : Run) → Comes_as naming env store a r → Comes_as naming env store a (after_as naming env store n r)
  comes_after zero a r p = p
  comes_after (suc n) a r p = comes_after n a (step_run_as naming env store r) (onward naming env store p)

  -- a run within so many steps has the end that it has, or none
  ended_as : (X : Outcome (Codes × State) → Type 0) → X lost → (a r e : Run) → Comes_as naming env store a r → Comes_as naming env store a e → step_run_as naming env store e ≡ e
      → X (outcome env store e) → X (outcome env store r)
  ended_as X none a (going m) e p q still x = none
  ended_as X none a (finished m) e p q still x = subst (λ y. X (outcome env store y)) (one_end naming env store q p still refl) x
  ended_as X none a too_deep e p q still x = subst (λ y. X (outcome env store y)) (one_end naming env store q p still refl) x
  ended_as X none a stuck e p q still x = none

  -- at the word that ends a body, with no frame left, the machine is done
  at_close : (c : ℕ) (i : Inst) (a l : Names) (v : MPassed) (w : Passing) (h : Here) (left last next : ℕ) (st : State) (o : Op) → Stands (program_no env c) last o next → Closes o
      → let rest = room env c i a l v w [] h idle left [] in Comes_as naming env store (go st [] [] last rest) (finished (mach st [] [] last rest))
  at_close c i a l v w h left last next st (op.Else b) at t = at_op naming env store st [] [] last (room env c i a l v w [] h idle left []) (op.Else b) next at (λ n. finished (mach st [] [] last (room env c i a l v w [] h idle left []))) refl
  at_close c i a l v w h left last next st op.EndIf at t = at_op naming env store st [] [] last (room env c i a l v w [] h idle left []) op.EndIf next at (λ n. finished (mach st [] [] last (room env c i a l v w [] h idle left []))) refl
  at_close c i a l v w h left last next st op.EndItem at t = at_op naming env store st [] [] last (room env c i a l v w [] h idle left []) op.EndItem next at (λ n. finished (mach st [] [] last (room env c i a l v w [] h idle left []))) refl
  at_close c i a l v w h left last next st op.EndEach at t = at_op naming env store st [] [] last (room env c i a l v w [] h idle left []) op.EndEach next at (λ n. finished (mach st [] [] last (room env c i a l v w [] h idle left []))) refl
  at_close c i a l v w h left last next st op.EndBlock at t = at_op naming env store st [] [] last (room env c i a l v w [] h idle left []) op.EndBlock next at (λ n. finished (mach st [] [] last (room env c i a l v w [] h idle left []))) refl
  at_close c i a l v w h left last next st op.Done at t = at_op naming env store st [] [] last (room env c i a l v w [] h idle left []) op.Done next at (λ n. finished (mach st [] [] last (room env c i a l v w [] h idle left []))) refl
  at_close c i a l v w h left last next st _ at t = absurd t

  -- a run that is over, with an answer that follows what the tree says
  pub record Over (P : Codes → Type 0) (a : Run) (z : Lives × State) : Type 0 where
    end : Run
    comes : Comes_as naming env store a end
    still : step_run_as naming env store end ≡ end
    answers : FollowsIn P (outcome env store end) z
    told : outcome env store end ≡ lost → ⊥

  is_over : (P : Codes → Type 0) (a : Run) (z : Lives × State) (e : Codes × State → Run) → Goes naming env store P lives_of are_deep a z e
      → ((x : Codes × State) → (m : Mach) × Comes_as naming env store (e x) (finished m) × (outcome env store (finished m) ≡ ok x)) → Over P a z
  is_over P a z e (stops d p) close = record { end = too_deep; comes = p; still = refl; answers = d; told = deep_told }
  is_over P a z e (ends x is fine placed p) close =
      let (m, q, o) = close x in
      record {
        end = finished m;
        comes = on naming env store p q;
        still = refl;
        answers = subst (λ y. FollowsIn P y z) (sym o) (is, subst (λ y. are_deep y.0 ≡ false) is fine, placed);
        told = λ l. ok_told x (sym o ∙ l);
      }

  -- within any number of steps
  answers_within : (P : Codes → Type 0) (a : Run) (z : Lives × State) → Over P a z → (n : ℕ) → FollowsIn P (outcome env store (after_as naming env store n a)) z
  answers_within P a z x n = ended_as (λ o. FollowsIn P o z) (record {}) a (after_as naming env store n a) x.end (comes_after n a a here) x.comes x.still x.answers

  rests : (n : ℕ) (r : Run) → step_run_as naming env store r ≡ r → after_as naming env store n r ≡ r
  rests zero r still = refl
  rests (suc n) r still = ap (after_as naming env store n) still ∙ rests n r still

  later : (n k : ℕ) (a r : Run) → n ≤ k → after_as naming env store n a ≡ r → step_run_as naming env store r ≡ r → after_as naming env store k a ≡ r
  later zero k a r less e still = ap (after_as naming env store k) e ∙ rests k r still
  later (suc n) zero a r less e still = absurd (omega (arith, less))
  later (suc n) (suc k) a r less e still = later n k (step_run_as naming env store a) r (omega (arith, less)) e still

  steps_to : {a r : Run} → Comes_as naming env store a r → (n : ℕ) × (after_as naming env store n a ≡ r)
  steps_to here = (0, refl)
  steps_to (more p) = let (n, e) = steps_to p in (suc n, e)

  -- and from some number of steps on
  over_ends : (P : Codes → Type 0) (a : Run) (z : Lives × State) → Over P a z → Ends (λ n. outcome env store (after_as naming env store n a))
  over_ends P a z x =
      let (n, e) = steps_to x.comes in (n, outcome env store x.end, x.told, λ k less. ap (outcome env store) (later n k a x.end less e x.still))

module _ (naming : Naming) (env : Env) (store : Store) (sound : Sound env) where
  over : (c : ℕ) (ms : MScope) (w : Passing) → Fits env c ms w → (from : ℕ) (b : Body) → BodyThere env c (texts_of (s.locals_in ms)) from b → (p : Path) (m : ℕ) (st : State)
      → Over naming env store (PlacedIn env c ms w p 0 b) (begun env store (start (seen env c ms w) from p m) st) (fresh_body_as naming env.app store m ms p b st)
  over c (mscope i a l v) w fits from b (last, next, o, at_body, at_end, closes, fit) p m st =
      let components = grow_components_as naming m env.app store in
      let invokes = components_go naming env store sound m in
      let yields = yields_go naming env store sound m components invokes v in
      is_over naming env store (PlacedIn env c (mscope i a l v) w p 0 b) (go st [] [] from (room env c i a l v w [] (fresh p) idle m []))
      (grow_body_as naming env.app components (grow_yields_as naming env.app components v) (mscope i a l v) p 0 b st)
      (λ r. go r.1 [] [] last (room env c i a l v w [] (adds r.0 (fresh p)) idle m []))
      (body_goes naming env store sound c i a v w fits.is fits.passes (spreads_go naming env store sound v w fits.passes) m components (grow_yields_as naming env.app components v) invokes yields
      l fits.known [] st [] (fresh p) [] (λ m r. refl) from b last at_body fit)
      (λ x. (
        mach x.1 [] [] last (room env c i a l v w [] (adds x.0 (fresh p)) idle m []),
        at_close naming env store c i a l v w (adds x.0 (fresh p)) m last next x.1 o at_end closes,
        ap (λ k. ok (k, x.1)) (closed_codes x.0 (fresh p) refl),
      ))

  pub runs_right : (n : ℕ) → RunsRight_as naming env store (run_for_as naming env store n)
  runs_right n c ms w fits from b there p m st =
      answers_within naming env store (PlacedIn env c ms w p 0 b) (begun env store (start (seen env c ms w) from p m) st) (fresh_body_as naming env.app store m ms p b st) (over c ms w fits from b there p m st) n

  pub runs_end : RunsEnd env store (run_for_as naming env store)
  runs_end c ms w fits from b there p m st =
      over_ends naming env store (PlacedIn env c ms w p 0 b) (begun env store (start (seen env c ms w) from p m) st) (fresh_body_as naming env.app store m ms p b st) (over c ms w fits from b there p m st)
