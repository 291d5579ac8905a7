-- Branches of which the condition is evaluated again.
use Rattle.std.proofs.Common.{◌≡◌, ◌≢◌, ℕ, Bool, true, false, ◌∷◌, ◌+◌, Option, refl, sym, ap}
use Rattle.std.specs.Prelude.{if◌then◌else◌}
use Rattle.gl_arena.specs.Id.{Id}
use Rattle.gl_meaning.specs.Eval.{takes_first}
use Rattle.gl_meaning.specs.Path.{main, otherwise, Path}
use Rattle.gl_meaning.specs.Scope.{Source}
use Rattle.gl_opc.specs.declared.app.App.{App}
use Rattle.gl_plain.specs.Binding.{Spot, first_value}
use Rattle.gl_plain.specs.Ids.{Id as Name}
use Rattle.gl_plain.specs.Live.{times_in, times_comment}
use Rattle.gl_plain.specs.Naming.{by_number, dropped_as}
use Rattle.gl_plain.specs.Renew.{spot_pairs, reread}
use Rattle.gl_plain.specs.State.{State}
use Rattle.gl_machine.specs.Code.{Choice, Code as PlainCode, Codes as PlainCodes, branch_code, lives_of}
use Rattle.gl_machine.specs.Outcome.{Outcome, ok, on_ok}
use Rattle.gl_machine.specs.RenewCode.{CodeArm, Start, start, Runs, commented, branch_with, fresh_branch}
use Rattle.gl_guards.specs.Along.{along_code_as, along_body_as}
use Rattle.gl_vm.specs.View.{Tables, state_of, Agrees}
use Rattle.gl_vm.specs.Steps.{Does}
use Rattle.gl_vm.specs.declared.vm.Vm.{Vm}
use Rattle.gl_code.specs.Cells.{CellList}
use Rattle.gl_code.specs.CodeView.{stamp_of}
use Rattle.gl_code.specs.Comments.{Commented}
use Rattle.gl_code.specs.Tables.{tables_of}
use Rattle.gl_meaning.specs.View.{manifest_view}
use Rattle.gl_code.specs.declared.fault.VmFault.{VmFault}
use Rattle.gl_code.specs.Renewing.{Renewal, Renews, RenewFails}
use Rattle.gl_update.proofs.Renewing.{renews_same, renews_then, renews_in, does_renews, fails_same, fails_first, fails_in, does_fails}

abbrev pub side_of : Bool → Path → Path
side_of b p = (if b then main else otherwise) ∷ p

-- all that stands in a branch
abbrev pub standing : Option ℕ → PlainCodes → Name → ℕ
standing k cs q = times_in q (lives_of cs) + times_comment q k

-- what was rendered gets its comment
pub renews_commented : {A : Type 0} (a : App) (cells : CellList) (h : Tables → Option ℕ → PlainCodes → A) (ds : Tables → PlainCodes) (v new : Vm) (c : Option Id)
    → ((n : Tables) (u : Source → Bool) → Agrees u v → Commented n (ds n, state_of n v u) new c)
    → Renews a cells (λ n run st. let x = commented (ds n, st) in ok (h n x.comment x.codes, x.state)) v (λ n. h n (stamp_of c) (ds n)) new
renews_commented a cells h ds v new c g ts rise u agrees =
    let n = tables_of (manifest_view a.manifest) in
    let w = g n u agrees in
    record { steps = 0; state = w.state; follows = w.follows; is = λ k less. ap (λ (x : CodeArm). ok (h n x.comment x.codes, x.state)) w.is }

module _ (a : App) (cells : CellList) (left : ℕ) (p : Path) (z : Tables → Choice) (s : Spot) (k : Option ℕ) (cs : Tables → PlainCodes) where
  -- the other body in the place of this one
  abbrev pub Fresh : Bool → Renewal PlainCode
  Fresh b = λ n run st. fresh_branch run (z n) s b p left (dropped_as by_number (standing k (cs n)) st)

  abbrev pub Same : Bool → Renewal PlainCodes
  Same b = λ n run. along_body_as by_number run left (side_of b p) (cs n)

  abbrev pub Whole : Bool → Renewal PlainCode
  Whole b = λ n run. along_code_as by_number run left p (branch_code (z n) s b k (cs n))

  abbrev Kept : Bool → Renewal PlainCode
  Kept b = λ n run st. on_ok (Same b n run st) (λ r. ok (branch_code (z n) s b k r.0, r.1))

  -- what is done with the condition evaluated
  abbrev Decided : Bool → Renewal PlainCode
  Decided true = λ n run st. if takes_first (z n).unless (first_value (spot_pairs st s.ref)) then Kept true n run st else Fresh false n run st
  Decided false = λ n run st. if takes_first (z n).unless (first_value (spot_pairs st s.ref)) then Fresh true n run st else Kept false n run st

  abbrev pub Shows : Bool → Vm → Type 0
  Shows b vm = (n : Tables) (u : Source → Bool) → takes_first (z n).unless (first_value (spot_pairs (state_of n vm u) s.ref)) ≡ b

  decided_kept : (b : Bool) (vm : Vm) → Shows b vm → (n : Tables) (run : Runs) (u : Source → Bool) → Kept b n run (state_of n vm u) ≡ Decided b n run (state_of n vm u)
  decided_kept true vm e n run u = ap (λ t. if t then Kept true n run (state_of n vm u) else Fresh false n run (state_of n vm u)) (sym (e n u))
  decided_kept false vm e n run u = ap (λ t. if t then Fresh true n run (state_of n vm u) else Kept false n run (state_of n vm u)) (sym (e n u))

  decided_other : (b d : Bool) (vm : Vm) → b ≢ d → Shows b vm → (n : Tables) (run : Runs) (u : Source → Bool) → Fresh b n run (state_of n vm u) ≡ Decided d n run (state_of n vm u)
  decided_other true true vm ne e n run u = absurd (ne refl)
  decided_other false false vm ne e n run u = absurd (ne refl)
  decided_other true false vm ne e n run u = ap (λ t. if t then Fresh true n run (state_of n vm u) else Kept false n run (state_of n vm u)) (sym (e n u))
  decided_other false true vm ne e n run u = ap (λ t. if t then Kept true n run (state_of n vm u) else Fresh false n run (state_of n vm u)) (sym (e n u))

  -- the update of the branch is that
  as_decided : (b : Bool) (old mid new : Vm) (x : Tables → PlainCode) → Does (λ n. reread s.ref) old mid → Renews a cells (Decided b) mid x new → Renews a cells (Whole b) old x new
  as_decided true old mid new x d r = does_renews a cells (λ n. reread s.ref) (Decided true) x old mid new d r
  as_decided false old mid new x d r = does_renews a cells (λ n. reread s.ref) (Decided false) x old mid new d r

  fails_decided : (b : Bool) (old mid : Vm) (e : VmFault) → Does (λ n. reread s.ref) old mid → RenewFails a cells (Decided b) mid e → RenewFails a cells (Whole b) old e
  fails_decided true old mid e d r = does_fails a cells (λ n. reread s.ref) (Decided true) old mid e d r
  fails_decided false old mid e d r = does_fails a cells (λ n. reread s.ref) (Decided false) old mid e d r

  pub branch_kept : (b : Bool) (old mid new : Vm) (ds : Tables → PlainCodes) → Does (λ n. reread s.ref) old mid → Shows b mid → Renews a cells (Same b) mid ds new → Renews a cells (Whole b) old (λ n. branch_code (z n) s b k (ds n)) new
  branch_kept b old mid new ds d e r =
      as_decided b old mid new (λ n. branch_code (z n) s b k (ds n)) d
      (renews_same a cells (Kept b) (Decided b) (λ n. branch_code (z n) s b k (ds n)) mid new (decided_kept b mid e) (renews_in a cells (Same b) (λ n x. branch_code (z n) s b k x) ds mid new r))

  pub branch_kept_fails : (b : Bool) (old mid : Vm) (f : VmFault) → Does (λ n. reread s.ref) old mid → Shows b mid → RenewFails a cells (Same b) mid f → RenewFails a cells (Whole b) old f
  branch_kept_fails b old mid f d e r =
      fails_decided b old mid f d (fails_same a cells (Kept b) (Decided b) mid f (decided_kept b mid e) (fails_in a cells (Same b) (λ n x. branch_code (z n) s b k x) (λ n st. st) mid f r))

  pub branch_flips : (b was : Bool) (old mid new : Vm) (x : Tables → PlainCode) → b ≢ was → Does (λ n. reread s.ref) old mid → Shows b mid → Renews a cells (Fresh b) mid x new → Renews a cells (Whole was) old x new
  branch_flips b was old mid new x ne d e r = as_decided was old mid new x d (renews_same a cells (Fresh b) (Decided was) x mid new (decided_other b was mid ne e) r)

  pub branch_flip_fails : (b was : Bool) (old mid : Vm) (f : VmFault) → b ≢ was → Does (λ n. reread s.ref) old mid → Shows b mid → RenewFails a cells (Fresh b) mid f → RenewFails a cells (Whole was) old f
  branch_flip_fails b was old mid f ne d e r = fails_decided was old mid f d (fails_same a cells (Fresh b) (Decided was) mid f (decided_other b was mid ne e) r)

  -- The other body, appended.
  abbrev Begun : Bool → Renewal PlainCodes
  Begun b = λ n run. run (start (z n).sight (if b then (z n).first else (z n).second) (side_of b p) left)

  abbrev answered : Bool → Tables → PlainCodes → Runs → State → Outcome (PlainCode × State)
  answered b n v run st = ok (branch_with (z n) s b (commented (v, st)))

  begun_is : (b : Bool) (mid : Vm) (from : Tables → Start) → ((n : Tables) → from n ≡ start (z n).sight (if b then (z n).first else (z n).second) (side_of b p) left)
      → (n : Tables) (run : Runs) (u : Source → Bool) → run (from n) (state_of n mid u) ≡ Begun b n run (state_of n mid u)
  begun_is b mid from e n run u = ap (λ (x : Start). run x (state_of n mid u)) (e n)

  pub fresh_renews : (b : Bool) (old mid v new : Vm) (from : Tables → Start) (ds : Tables → PlainCodes) (c : Option Id) → Does (λ n. dropped_as by_number (standing k (cs n))) old mid
      → ((n : Tables) → from n ≡ start (z n).sight (if b then (z n).first else (z n).second) (side_of b p) left)
      → Renews a cells (λ n run. run (from n)) mid ds v → ((n : Tables) (u : Source → Bool) → Agrees u v → Commented n (ds n, state_of n v u) new c)
      → Renews a cells (Fresh b) old (λ n. branch_code (z n) s b (stamp_of c) (ds n)) new
  fresh_renews b old mid v new from ds c d e r g =
      does_renews a cells (λ n. dropped_as by_number (standing k (cs n))) (λ n run st. fresh_branch run (z n) s b p left st) (λ n. branch_code (z n) s b (stamp_of c) (ds n)) old mid new d
      (renews_then a cells (Begun b) (answered b) ds (λ n. branch_code (z n) s b (stamp_of c) (ds n)) mid v new
      (renews_same a cells (λ n run. run (from n)) (Begun b) ds mid v (begun_is b mid from e) r)
      (renews_commented a cells (λ n o x. branch_code (z n) s b o x) ds v new c g))

  pub fresh_fails : (b : Bool) (old mid : Vm) (from : Tables → Start) (f : VmFault) → Does (λ n. dropped_as by_number (standing k (cs n))) old mid
      → ((n : Tables) → from n ≡ start (z n).sight (if b then (z n).first else (z n).second) (side_of b p) left)
      → RenewFails {A = PlainCodes} a cells (λ n run. run (from n)) mid f → RenewFails a cells (Fresh b) old f
  fresh_fails b old mid from f d e r =
      does_fails a cells (λ n. dropped_as by_number (standing k (cs n))) (λ n run st. fresh_branch run (z n) s b p left st) old mid f d
      (fails_first a cells (Begun b) (answered b) mid f (fails_same a cells (λ n run. run (from n)) (Begun b) mid f (begun_is b mid from e) r))
