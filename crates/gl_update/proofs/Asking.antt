-- Questions, one after another.
use Rattle.std.proofs.Common.{◌≡◌, ℕ, ◌+◌, max, nat_eq, length, Bool, true, false, refl, sym, ◌∙◌, ap, ap₂, arith}
use Rattle.std.specs.Prelude.{if◌then◌else◌}
use Rattle.std.proofs.lemmas.Bool.{eq-eqb}
use Rattle.std.proofs.lemmas.List.{length-map}
use Rattle.gl_meaning.specs.Scope.{Source}
use Rattle.gl_meaning.specs.View.{manifest_view}
use Rattle.gl_opc.specs.declared.app.App.{App}
use Rattle.gl_plain.specs.Naming.{by_number}
use Rattle.gl_plain.specs.State.{State}
use Rattle.gl_machine.specs.Outcome.{Outcome}
use Rattle.gl_machine.specs.RenewCode.{Runs}
use Rattle.gl_machine.specs.Step.{run_for_as}
use Rattle.gl_guards.specs.AlongAsks.{gone_along}
use Rattle.gl_guards.specs.Questions.{after}
use Rattle.gl_vm.specs.View.{Tables, Agrees, state_of}
use Rattle.gl_vm.specs.Steps.{Follows, Does}
use Rattle.gl_vm.specs.declared.vm.Vm.{Vm}
use Rattle.gl_code.specs.Cells.{CellList, store_of}
use Rattle.gl_code.specs.Tables.{tables_of, env_of}
use Rattle.gl_code.specs.Renewing.{Renewal, Renews}
use Rattle.gl_update.specs.Questions.{Count, Asks, closed}

module _ (a : App) (cells : CellList) where
  -- the same count of what is kept
  pub asks_agreed : (f g : Count) (old : Vm) (b c : ℕ) → ((n : Tables) (run : Runs) (u : Source → Bool) → Agrees u old → f n run (state_of n old u) ≡ g n run (state_of n old u)) → Asks a cells f old b c → Asks a cells g old b c
  asks_agreed f g old b c e r ts rise u agrees =
      let env = env_of a ts in
      let n = tables_of (manifest_view a.manifest) in
      let y = r ts rise u agrees in record { steps = y.steps; is = λ k less. y.is k less ∙ ap (λ m. b + m) (e n (run_for_as by_number env (store_of env.app cells) k) u agrees) }

  pub asks_same : (f g : Count) (old : Vm) (b c : ℕ) → ((n : Tables) (run : Runs) (u : Source → Bool) → f n run (state_of n old u) ≡ g n run (state_of n old u)) → Asks a cells f old b c → Asks a cells g old b c
  asks_same f g old b c e r = asks_agreed f g old b c (λ n run u agrees. e n run u) r

  -- so many are asked
  pub asks_just : (k : ℕ) (old : Vm) (b c : ℕ) → c ≡ b + k → Asks a cells (λ n run st. k) old b c
  asks_just k old b c e ts rise u agrees = record { steps = 0; is = λ j less. e }

  -- so many are asked first
  pub asks_first : (k : ℕ) (f : Count) (old : Vm) (b m c : ℕ) → m ≡ b + k → Asks a cells f old m c → Asks a cells (λ n run st. k + f n run st) old b c
  asks_first k f old b m c e r ts rise u agrees =
      let env = env_of a ts in
      let n = tables_of (manifest_view a.manifest) in
      let y = r ts rise u agrees in
      record {
        steps = y.steps;
        is = λ j less.
            let i = f n (run_for_as by_number env (store_of env.app cells) j) (state_of n old u) in
            let is : c ≡ m + i = y.is j less in
            let all : c ≡ b + (k + i) = omega (arith, e, is) in all;
      }

  -- something is done first
  pub does_asks : (d : Tables → State → State) (f : Count) (old mid : Vm) (b c : ℕ) → Does d old mid → Asks a cells f mid b c → Asks a cells (λ n run st. f n run (d n st)) old b c
  does_asks d f old mid b c e r ts rise u agrees =
      let env = env_of a ts in
      let n = tables_of (manifest_view a.manifest) in
      let v : Follows n (d n (state_of n old u)) mid = e n u agrees in
      let w = r ts rise (d n (state_of n old u)).touched v.agrees in
      record { steps = w.steps; is = λ k less. w.is k less ∙ ap (λ st. b + f n (run_for_as by_number env (store_of env.app cells) k) st) v.state }

  -- some are asked, and then those of what comes after it
  pub asks_then : {A : Type 0} (f : Count) (flow : Renewal A) (g : Tables → A → Runs → State → ℕ) (x : Tables → A) (old mid : Vm) (b m c : ℕ)
      → Asks a cells f old b m → Renews a cells flow old x mid → Asks a cells (λ n run st. g n (x n) run st) mid m c
      → Asks a cells (λ n run st. f n run st + after (flow n run st) (λ r. g n r.0 run r.1)) old b c
  asks_then {A} f flow g x old mid b m c p r q ts rise u agrees =
      let env = env_of a ts in
      let n = tables_of (manifest_view a.manifest) in
      let run : ℕ → Runs = λ k. run_for_as by_number env (store_of env.app cells) k in
      let st : State = state_of n old u in
      let y = p ts rise u agrees in
      let v = r ts rise u agrees in
      let w = q ts rise v.state.touched v.follows.agrees in
      record {
        steps = max y.steps (max v.steps w.steps);
        is = λ k less.
            let one : m ≡ b + f n (run k) st = y.is k (omega (arith, less)) in
            let more : c ≡ m + g n (x n) (run k) v.state = w.is k (omega (arith, less)) ∙ ap (λ s. m + g n (x n) (run k) s) v.follows.state in
            let rest : after (flow n (run k) st) (λ r'. g n r'.0 (run k) r'.1) ≡ g n (x n) (run k) v.state = ap (λ (o : Outcome (A × State)). after o (λ r'. g n r'.0 (run k) r'.1)) (v.is k (omega (arith, less))) in
            let all : c ≡ b + (f n (run k) st + after (flow n (run k) st) (λ r'. g n r'.0 (run k) r'.1)) = omega (arith, one, more, rest) in all;
      }

  -- A region is gone along: one is asked, and what is asked in it doesn't count where nothing was evaluated.
  pub asks_region : {A : Type 0} (flow : Renewal A) (g : Count) (x : Tables → A) (old new : Vm) (b m0 m c : ℕ) → m0 ≡ b + 1 → Renews a cells flow old x new → Asks a cells g old m0 m
      → c ≡ closed m0 m (nat_eq (length new.refs.evaluated) (length old.refs.evaluated))
      → Asks a cells (λ n run st. gone_along st (flow n run st) (g n run st)) old b c
  asks_region {A} flow g x old new b m0 m c first r p e ts rise u agrees =
      let env = env_of a ts in
      let n = tables_of (manifest_view a.manifest) in
      let run : ℕ → Runs = λ k. run_for_as by_number env (store_of env.app cells) k in
      let st : State = state_of n old u in
      let v = r ts rise u agrees in
      let y = p ts rise u agrees in
      let before : length st.evaluated ≡ length old.refs.evaluated = length-map old.refs.evaluated (λ i. i.1) in
      let behind : length v.state.evaluated ≡ length new.refs.evaluated = ap (λ (s : State). length s.evaluated) (sym v.follows.state) ∙ length-map new.refs.evaluated (λ i. i.1) in
      record {
        steps = max v.steps y.steps;
        is = λ k less.
            let i = g n (run k) st in
            let inside : m ≡ m0 + i = y.is k (omega (arith, less)) in
            let is : gone_along st (flow n (run k) st) i ≡ 1 + (if nat_eq (length v.state.evaluated) (length st.evaluated) then 0 else i) =
            ap (λ (o : Outcome (A × State)). gone_along st o i) (v.is k (omega (arith, less))) in
            let same : nat_eq (length v.state.evaluated) (length st.evaluated) ≡ nat_eq (length new.refs.evaluated) (length old.refs.evaluated) = ap₂ nat_eq behind before in
            by (nat_eq (length new.refs.evaluated) (length old.refs.evaluated)) i (gone_along st (flow n (run k) st) i) e inside (is ∙ ap (λ d. 1 + (if d then 0 else i)) same);
      } where
        by : (d : Bool) (i s : ℕ) → c ≡ closed m0 m d → m ≡ m0 + i → s ≡ 1 + (if d then 0 else i) → c ≡ b + s
        by true i s h j is = omega (arith, h, first, is)
        by false i s h j is = omega (arith, h, first, j, is)

  -- a region that is passed over
  pub asks_passed : {A : Type 0} (flow : Renewal A) (g : Count) (x : Tables → A) (old new : Vm) (b c : ℕ) → c ≡ b + 1 → Renews a cells flow old x new → length new.refs.evaluated ≡ length old.refs.evaluated
      → Asks a cells (λ n run st. gone_along st (flow n run st) (g n run st)) old b c
  asks_passed {A} flow g x old new b c one r e ts rise u agrees =
      let env = env_of a ts in
      let n = tables_of (manifest_view a.manifest) in
      let run : ℕ → Runs = λ k. run_for_as by_number env (store_of env.app cells) k in
      let st : State = state_of n old u in
      let v = r ts rise u agrees in
      let before : length st.evaluated ≡ length old.refs.evaluated = length-map old.refs.evaluated (λ i. i.1) in
      let behind : length v.state.evaluated ≡ length new.refs.evaluated = ap (λ (s : State). length s.evaluated) (sym v.follows.state) ∙ length-map new.refs.evaluated (λ i. i.1) in
      record {
        steps = v.steps;
        is = λ k less.
            let i = g n (run k) st in
            let is : gone_along st (flow n (run k) st) i ≡ 1 + (if nat_eq (length v.state.evaluated) (length st.evaluated) then 0 else i) = ap (λ (o : Outcome (A × State)). gone_along st o i) (v.is k less) in
            let same : nat_eq (length v.state.evaluated) (length st.evaluated) ≡ true = ap (λ l. nat_eq l (length st.evaluated)) (behind ∙ (e ∙ sym before)) ∙ itself (length st.evaluated) in
            let just : gone_along st (flow n (run k) st) i ≡ 1 = is ∙ ap (λ d. 1 + (if d then 0 else i)) same in
            let all : c ≡ b + gone_along st (flow n (run k) st) i = omega (arith, one, just) in all;
      } where
        itself : (l : ℕ) → nat_eq l l ≡ true
        itself l = eq-eqb l l refl

  -- A loop: whatever the rest asks, the whole asks.
  pub record AsksOn (whole : Count) (vm0 : Vm) (b0 : ℕ) (rest : Count) (vm : Vm) (b : ℕ) : Type 0 where
    pub goes : (c : ℕ) → Asks a cells rest vm b c → Asks a cells whole vm0 b0 c

  pub ason_begin : (whole rest : Count) (vm : Vm) (b : ℕ) → ((n : Tables) (run : Runs) (u : Source → Bool) → rest n run (state_of n vm u) ≡ whole n run (state_of n vm u)) → AsksOn whole vm b rest vm b
  ason_begin whole rest vm b e = record { goes = λ c r. asks_same rest whole vm b c e r }

  -- the first part of the rest is done
  pub ason_next : {A : Type 0} (whole rest f : Count) (flow : Renewal A) (g : Tables → A → Runs → State → ℕ) (x : Tables → A) (vm0 vm mid : Vm) (b0 b m : ℕ)
      → ((n : Tables) (run : Runs) (u : Source → Bool) → f n run (state_of n vm u) + after (flow n run (state_of n vm u)) (λ r. g n r.0 run r.1) ≡ rest n run (state_of n vm u))
      → AsksOn whole vm0 b0 rest vm b → Asks a cells f vm b m → Renews a cells flow vm x mid → AsksOn whole vm0 b0 (λ n run st. g n (x n) run st) mid m
  ason_next f0 rest f flow g x vm0 vm mid b0 b m e w p r = record {
    goes = λ c q. w.goes c (asks_same (λ n run st. f n run st + after (flow n run st) (λ y. g n y.0 run y.1)) rest vm b c e (asks_then f flow g x vm mid b m c p r q));
  }

  -- nothing is left
  pub ason_end : (whole rest : Count) (vm0 vm : Vm) (b0 b : ℕ) → ((n : Tables) (run : Runs) (u : Source → Bool) → rest n run (state_of n vm u) ≡ 0) → AsksOn whole vm0 b0 rest vm b → Asks a cells whole vm0 b0 b
  ason_end whole rest vm0 vm b0 b none w = w.goes b (asks_same (λ n run st. 0) rest vm b b (λ n run u. sym (none n run u)) (asks_just 0 vm b b (omega arith)))
