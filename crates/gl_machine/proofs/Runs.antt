-- Steps one after another, and runs of what may be too deep.
use Rattle.std.proofs.Common.{◌≡◌, ℕ, suc, List, [], ◌∷◌, ◌++◌, Bool, true, false, refl, sym, ◌∙◌, ap, subst}
use Rattle.gl_program.specs.Program.{Stands}
use Rattle.gl_ops.specs.declared.op.Op.{Op}
use Rattle.gl_meaning.specs.Eval.{Store}
use Rattle.gl_plain.specs.Ids.{Id}
use Rattle.gl_plain.specs.State.{State}
use Rattle.gl_plain.specs.Naming.{Naming}
use Rattle.gl_machine.specs.Code.{Code, Codes, no_codes, code_and}
use Rattle.gl_machine.specs.Env.{Env}
use Rattle.gl_machine.specs.Mach.{Pushed, Here, Rest, Run, too_deep, go, mach, added, all_of}
use Rattle.gl_machine.specs.Step.{given, program_of, do_op_as, step_run_as, Comes_as, here, more}

-- what a body rendered is added
abbrev pub adds : Codes → Here → Here
adds no_codes h = h
adds (code_and k ks) h = adds ks (added k h)

abbrev pub before : List Code → Codes → Codes
before [] ks = ks
before (x ∷ xs) ks = code_and x (before xs ks)

before_end : (xs : List Code) (k : Code) (ks : Codes) → before (xs ++ k ∷ []) ks ≡ before xs (code_and k ks)
before_end [] k ks = refl
before_end (x ∷ xs) k ks = ap (code_and x) (before_end xs k ks)

adds_are : (ks : Codes) (h : Here) → all_of (adds ks h).codes ≡ before h.codes ks
adds_are no_codes h = all_before h.codes
  where
    all_before : (xs : List Code) → all_of xs ≡ before xs no_codes
    all_before [] = refl
    all_before (x ∷ xs) = ap (code_and x) (all_before xs)
adds_are (code_and k ks) h = adds_are ks (added k h) ∙ before_end h.codes k ks

-- what a frame finds when it is closed
pub closed_codes : (ks : Codes) (h : Here) → h.codes ≡ [] → all_of (adds ks h).codes ≡ ks
closed_codes ks h e = adds_are ks h ∙ ap (λ xs. before xs ks) e

module _ (naming : Naming) (env : Env) (store : Store) where
  pub on : {a b c : Run} → Comes_as naming env store a b → Comes_as naming env store b c → Comes_as naming env store a c
  on here q = q
  on (more p) q = more (on p q)

  -- one step more at the end
  pub onward : {a b : Run} → Comes_as naming env store a b → Comes_as naming env store a (step_run_as naming env store b)
  onward here = more here
  onward (more p) = more (onward p)

  pub at_op : (st : State) (stk : List Pushed) (made : List Id) (from : ℕ) (rest : Rest) (op : Op) (next : ℕ) → Stands (program_of env store rest.getter rest.sight) from op next
      → (f : ℕ → Run) → do_op_as naming env store (mach st stk made from rest) op ≡ f (suc from) → Comes_as naming env store (go st stk made from rest) (f next)
  at_op st stk made from rest op next at f h =
      more (subst (λ x. Comes_as naming env store x (f next)) (sym (ap (λ o. given o (do_op_as naming env store (mach st stk made from rest))) at.0 ∙ (h ∙ ap f at.1))) here)

  -- the same, where more steps follow the opcode
  pub at_onto : (st : State) (stk : List Pushed) (made : List Id) (from : ℕ) (rest : Rest) (op : Op) (next : ℕ) → Stands (program_of env store rest.getter rest.sight) from op next
      → (f : ℕ → Run) → Comes_as naming env store (do_op_as naming env store (mach st stk made from rest) op) (f (suc from)) → Comes_as naming env store (go st stk made from rest) (f next)
  at_onto st stk made from rest op next at f p =
      more (subst (λ o. Comes_as naming env store (given o (do_op_as naming env store (mach st stk made from rest))) (f next)) (sym at.0)
      (subst (λ n. Comes_as naming env store (do_op_as naming env store (mach st stk made from rest) op) (f n)) at.1 p))

  stays : {a c : Run} → Comes_as naming env store a c → step_run_as naming env store a ≡ a → c ≡ a
  stays here e = refl
  stays (more p) e = stays p (ap (step_run_as naming env store) e) ∙ e

  -- the end of a run is one
  pub one_end : {a b c : Run} → Comes_as naming env store a b → Comes_as naming env store a c → step_run_as naming env store b ≡ b → step_run_as naming env store c ≡ c → b ≡ c
  one_end here q eb ec = sym (stays q eb)
  one_end (more p) here eb ec = stays (more p) ec
  one_end (more p) (more q) eb ec = one_end p q eb ec

  -- The run comes to what z says: with the same part but for its addresses, which is well placed; or it is too deep.
  pub data Goes {A B : Type 0} (P : A → Type 0) (f : A → B) (d : B → Bool) (r : Run) (z : B × State) (e : A × State → Run) : Type 0 where
    stops : d z.0 ≡ true → Comes_as naming env store r too_deep → Goes P f d r z e
    ends : (x : A × State) → (f x.0, x.1) ≡ z → d (f x.0) ≡ false → P x.0 → Comes_as naming env store r (e x) → Goes P f d r z e

  -- steps before
  pub first : {A B : Type 0} (P : A → Type 0) (f : A → B) (d : B → Bool) (q r : Run) (z : B × State) (e : A × State → Run) → Comes_as naming env store q r → Goes P f d r z e → Goes P f d q z e
  first P f d q r z e p (stops t g) = stops t (on p g)
  first P f d q r z e p (ends x is fine placed g) = ends x is fine placed (on p g)

  -- steps after
  pub onto : {A B C D : Type 0} (P : A → Type 0) (f : A → B) (d : B → Bool) (Q : C → Type 0) (g : C → D) (u : D → Bool)
      (r : Run) (z : B × State) (e : A × State → Run) (h : B × State → D × State) (e' : C × State → Run)
      → Goes P f d r z e → ((y : B × State) → d y.0 ≡ true → u (h y).0 ≡ true)
      → ((x : A × State) → d (f x.0) ≡ false → P x.0 → Goes Q g u (e x) (h (f x.0, x.1)) e') → Goes Q g u r (h z) e'
  onto P f d Q g u r z e h e' (stops t p) up step = stops (up z t) p
  onto P f d Q g u r z e h e' (ends x is fine placed p) up step =
      subst (λ y. Goes Q g u r (h y) e') is (first Q g u r (e x) (h (f x.0, x.1)) e' p (step x fine placed))

  -- the opcode at the present place, and then the rest
  pub starts : {A B : Type 0} (P : A → Type 0) (f : A → B) (d : B → Bool) (st : State) (stk : List Pushed) (made : List Id) (from : ℕ) (rest : Rest) (op : Op) (next : ℕ)
      → Stands (program_of env store rest.getter rest.sight) from op next → (z : B × State) (e : ℕ → A × State → Run)
      → Goes P f d (do_op_as naming env store (mach st stk made from rest) op) z (e (suc from)) → Goes P f d (go st stk made from rest) z (e next)
  starts P f d st stk made from rest op next at z e g =
      subst (λ n. Goes P f d (go st stk made from rest) z (e n)) at.1
      (first P f d (go st stk made from rest) (do_op_as naming env store (mach st stk made from rest) op) z (e (suc from))
      (more (subst (λ o. Comes_as naming env store (given o (do_op_as naming env store (mach st stk made from rest))) (do_op_as naming env store (mach st stk made from rest) op)) (sym at.0) here)) g)
