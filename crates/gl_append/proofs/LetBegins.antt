-- A `let` that begins.
use Rattle.std.proofs.Common.{◌≡◌, ℕ, suc, List, [], ◌∷◌, ◌++◌, sym, subst, ◌∙◌, ap}
use Rattle.std.specs.declared.vec.Vec.{Vec}
use Rattle.std.specs.declared.alloc.Global.{Global}
use Rattle.gl_meaning.specs.Path.{main, Path}
use Rattle.gl_arena.specs.Id.{Id}
use Rattle.gl_vm.specs.View.{stamps, Tables}
use Rattle.gl_machine.specs.Sight.{with_locals, Sight}
use Rattle.gl_plain.specs.State.{State}
use Rattle.gl_machine.specs.Mach.{Pushed, Mach, Run, going, next_at, mach, fresh, in_let}
use Rattle.gl_machine.specs.Step as s
use Rattle.gl_code.specs.View.{refs_made, seen_sight}
use Rattle.gl_append.specs.MachineView.{seen_stack, seen_here, mach_by}
use Rattle.gl_meaning.specs.View.{path_view}
use Rattle.gl_meaning.specs.declared.path.Path.{Path as CodePath}
use Rattle.gl_code.specs.declared.sight.Sight.{Sight as CodeSight}
use Rattle.gl_append.specs.declared.machine.Kind.TheVariants as kind
use Rattle.gl_append.specs.Steps.{Moves, Changes, Begins, let_entered}
use Rattle.gl_append.specs.declared.machine.Pushed.{Pushed as CodePushed}
use Rattle.gl_append.specs.declared.machine.Machine.{Machine}

pub let_begun : (count : ℕ) (old new : Machine) (stack : Vec CodePushed Global) (pend : List ℕ) (w : Tables → Sight) (p : Tables → Path)
    → seen_stack stack.items ≡ s.lower count (seen_stack old.stack.items) → pend ≡ s.positional (s.upper count (seen_stack old.stack.items)) → ((n : Tables) → w n ≡ seen_sight n old.sight) → ((n : Tables) → p n ≡ main ∷ next_at (seen_here n old.here))
    → Changes (λ n. let_entered pend (w n) (p n)) (record old { stack = stack }) new → Moves (λ n. s.do_let count) old new
let_begun count old new stack pend w p e1 e2 e3 e4 l n st =
    let m = mach_by n st old in
    let g : List Pushed → List ℕ → Sight → Path → Run = λ a b v q. going (let_entered b v q (record m { stack = a })) in
    sym (ap (λ a. g a pend (w n) (p n)) e1 ∙ (ap (λ b. g (s.lower count (seen_stack old.stack.items)) b (w n) (p n)) e2
    ∙ (ap (λ v. g (s.lower count (seen_stack old.stack.items)) (s.positional (s.upper count (seen_stack old.stack.items))) v (p n)) (e3 n)
    ∙ ap (λ q. g (s.lower count (seen_stack old.stack.items)) (s.positional (s.upper count (seen_stack old.stack.items))) (seen_sight n old.sight) q) (e4 n))))
    ∙ ap going (l n st)

-- a parameter takes the reference that is next
pub param_bound : (symbol : ℕ) (old new : Machine) (pending : List Id) (i : Id) → stamps old.pending ≡ i.1 ∷ stamps pending
    → ((n : Tables) (st : State) → record (mach_by n st old) { pc = suc old.pc; rest = record (mach_by n st old).rest { pending = stamps pending; sight = with_locals ((symbol, i.1) ∷ []) (seen_sight n old.sight) } } ≡ mach_by n st new)
    → Moves (λ n m. s.do_bind symbol m m.rest.pending) old new
param_bound symbol old new pending i e l n st = ap (λ rs. s.do_bind symbol (mach_by n st old) rs) e ∙ ap going (l n st)

-- the registers of a `let` that begins
pub entered : (old new : Machine) (pending none kp km : List Id) (sight : CodeSight) (path : CodePath) → none ≡ [] → kp ≡ old.pending → km ≡ old.made
    → Begins (record old { pc = suc old.pc; pending = pending; made = none }) new path (kind.Let sight kp km) → Changes (λ n. let_entered (stamps pending) (seen_sight n sight) (path_view path)) old new
entered old new pending none kp km sight path e1 e2 e3 b n st =
    let m = mach_by n st old in
    let g : List Id → List Id → List Id → Mach = λ x y z. mach m.state m.stack (refs_made x) (suc m.pc) (record m.rest { pending = stamps pending; here = fresh (path_view path); frames = m.rest.frames ++ record { here = m.rest.here; kind = in_let (seen_sight n sight) (stamps y) (refs_made z) } ∷ [] }) in
    sym (ap (λ x. g x kp km) e1 ∙ (ap (λ y. g [] y km) e2 ∙ ap (λ z. g [] old.pending z) e3)) ∙ sym (b n st)

pub entered_after : (old adv new : Machine) (pending none kp km : List Id) (sight : CodeSight) (path : CodePath) → adv ≡ record old { pc = suc old.pc } → none ≡ [] → kp ≡ adv.pending → km ≡ adv.made
    → Begins (record adv { pending = pending; made = none }) new path (kind.Let sight kp km) → Changes (λ n. let_entered (stamps pending) (seen_sight n sight) (path_view path)) old new
entered_after old adv new pending none kp km sight path e0 e1 =
    subst (λ (a : Machine). kp ≡ a.pending → km ≡ a.made → Begins (record a { pending = pending; made = none }) new path (kind.Let sight kp km) → Changes (λ n. let_entered (stamps pending) (seen_sight n sight) (path_view path)) old new) (sym e0)
    (entered old new pending none kp km sight path e1)
