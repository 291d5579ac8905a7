-- The whole page: the root is an instance with the empty path, to which nothing is passed, and counts as one level of nesting.
use Rattle.std.specs.Prelude.{ℕ, zero, suc, [], ◌∷◌, ◌++◌, None}
use Rattle.gl_meaning.specs.Eval.{Store, class_at}
use Rattle.gl_plain.specs.Ids.{an_instance, instance_id}
use Rattle.gl_plain.specs.State.{Inst, mscope, mnothing, instance_row, State, make}
use Rattle.gl_plain.specs.Naming.{Naming, by_path}
use Rattle.gl_plain.specs.Grow.{grow_cells_as}
use Rattle.gl_machine.specs.Sight.{sight, not_passed}
use Rattle.gl_machine.specs.Code.{Code, component_code}
use Rattle.gl_machine.specs.Outcome.{Outcome, ok, deep, lost, on_ok}
use Rattle.gl_machine.specs.RenewCode.{Runs, start, renew_codes_as}
use Rattle.gl_machine.specs.Env.{Env, class_no}
use Rattle.gl_machine.specs.Placed.{PlacedIn}

abbrev pub PlacedRoot : Env → Code → Type 0
PlacedRoot env (component_code i made gm args None cs) = (q : ℕ) × PlacedIn env q (mscope i args [] mnothing) not_passed [] 0 (class_at env.app []).template cs
PlacedRoot env _ = ⊥

module _ (naming : Naming) where
  -- what is appended from nothing: the root's class has the number q
  abbrev pub append_page_as : ℕ → Env → Store → Runs → ℕ → State → Outcome (Code × State)
  append_page_as zero env store run q st = deep
  append_page_as (suc m) env store run q st =
      let c = grow_cells_as naming env.app store [] (class_no env q).fields st in
      let i : Inst = record { id = c.state.next an_instance; path = []; cells = c.names } in
      on_ok (run (start (sight q i [] [] not_passed) 0 [] m) (make an_instance (instance_row i) c.state))
      (λ r. ok (component_code i (instance_id i.id ∷ ([] ++ c.made)) [] [] None r.0, r.1))

  abbrev pub renew_root_code_as : ℕ → Runs → Code → State → Outcome (Code × State)
  renew_root_code_as (suc m) run (component_code i made gm args k cs) st =
      on_ok (renew_codes_as naming run m [] 0 cs st) (λ r. ok (component_code i made gm args k r.0, r.1))
  renew_root_code_as _ run k st = lost

-- By paths.

abbrev pub append_page : ℕ → Env → Store → Runs → ℕ → State → Outcome (Code × State)
append_page = append_page_as by_path

abbrev pub renew_root_code : ℕ → Runs → Code → State → Outcome (Code × State)
renew_root_code = renew_root_code_as by_path
