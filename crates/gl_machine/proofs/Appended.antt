-- What is run from an address, in a scope of now, stands for the body there.
use Rattle.std.proofs.Common.{◌≡◌, ◌≤◌, ℕ, not, refl, sym, ◌∙◌, ap, subst, arith}
use Rattle.gl_ast.specs.Template.{Body}
use Rattle.gl_meaning.specs.App.{App}
use Rattle.gl_meaning.specs.Path.{Path}
use Rattle.gl_meaning.specs.Scope.{Scope, passed_of}
use Rattle.gl_meaning.specs.Eval.{Store}
use Rattle.gl_meaning.specs.Render.{fits}
use Rattle.gl_plain.specs.Ids.{a_ref, Id}
use Rattle.gl_plain.specs.State.{MScope, mscope, State}
use Rattle.gl_plain.specs.Naming.{by_path}
use Rattle.gl_plain.specs.Live.{Lives, are_deep, times_in}
use Rattle.gl_plain.specs.Drawn.{drawn_in}
use Rattle.gl_plain.specs.Grow.{grow_components, grow_yields}
use Rattle.gl_plain.specs.Renew.{fresh_body}
use Rattle.gl_plain.specs.InScope.{InScope}
use Rattle.gl_plain.proofs.Deep.{all_fit}
use Rattle.gl_plain.proofs.Grows.{GrownIn, still_low}
use Rattle.gl_plain.proofs.Layers.{all_grow, yields_grow, components_grow}
use Rattle.gl_plain.proofs.Moves.{owned_after}
use Rattle.gl_plain.proofs.Placing.{scope_grows}
use Rattle.gl_plain.proofs.Renewing.{Ready}
use Rattle.gl_plain.proofs.Rereads.{Cold}
use Rattle.gl_plain.proofs.Shown.{scope_itself, shows_in}
use Rattle.gl_machine.specs.Appended.{rendering_of, Answers}
use Rattle.gl_machine.specs.Code.{Codes, lives_of}
use Rattle.gl_machine.specs.Outcome.{Outcome, ok, deep, lost}
use Rattle.gl_machine.specs.Laws.{WordsStand}
use Rattle.gl_machine.specs.Placed.{FollowsIn}
use Rattle.gl_machine.proofs.Pages.{words_append}

module _ (app : App) (τ : Store) (m low : ℕ) (s : Scope) (ms : MScope) (p : Path) (b : Body) (st : State) (le : low ≤ st.next a_ref) (here : InScope app τ low st.look ms s) where
  abbrev Stood : Lives × State → Type 0
  Stood r = GrownIn app τ m low s ms p 0 b st r

  shown : (r : Lives × State) → Stood r → drawn_in app r.1.look ms p 0 b r.0 ≡ rendering_of app τ m s p b
  shown r g =
      let count : Id → ℕ = λ q. times_in q r.0 in
      let ready : Ready app τ τ low r.1 ms s s = record {
        low = still_low app τ low st r.1 count le g.moves;
        scope = scope_grows app τ low st r.1 ms s count le g.moves here;
        keeps = scope_itself (Cold r.1) s;
        cells = λ i x e. refl;
      } in
      (shows_in app τ r.1 m low s ms (passed_of s) p 0 b r.0 refl (owned_after st r.1 (λ q. 0) count g.moves) g.stands ready).is

  fitting : (r : Lives × State) → Stood r → fits (rendering_of app τ m s p b) ≡ not (are_deep r.0)
  fitting r g = ap fits (sym (shown r g)) ∙ all_fit r.1.look app τ m low s ms p p 0 b r.0 g.stands

  answers : (P : Codes → Type 0) (o : Outcome (Codes × State)) (r : Lives × State) → Stood r → FollowsIn P o r → Answers app τ m low s ms p b st o
  answers P lost r g f = record {}
  answers P deep r g f = fitting r g ∙ ap not f
  answers P (ok x) r g (is, fine, placed) =
      let h : Stood (lives_of x.0, x.1) = subst Stood (sym is) g in
      record {
        stands = h.stands;
        shows = shown (lives_of x.0, x.1) h;
        fine = fitting (lives_of x.0, x.1) h ∙ ap not (ap (λ y. are_deep y.0) is ∙ fine);
        others = λ q less. h.moves.kept q less refl;
        rises = h.moves.more;
        new = λ q less. let f = h.moves.fewer q less in omega (arith, f);
        owned = owned_after st x.1 (λ q. 0) (λ q. times_in q (lives_of x.0)) h.moves;
      }

grown : (app : App) (τ : Store) (m low : ℕ) (s : Scope) (ms : MScope) (p : Path) (b : Body) (st : State) → low ≤ st.next a_ref → InScope app τ low st.look ms s
    → GrownIn app τ m low s ms p 0 b st (fresh_body app τ m ms p b st)
grown app τ m low s (mscope i a l v) p b st le here =
    let d = grow_components m app τ in
    let hd = components_grow app τ m in
    all_grow app τ m d (grow_yields app d v) v hd (yields_grow app τ m d hd v) b low s i a l p 0 st le here

pub words_stand : WordsStand
words_stand env store lowered c ms w fits from b there p m st low s le here n =
    answers env.app store m low s ms p b st le here _ _ (fresh_body env.app store m ms p b st) (grown env.app store m low s ms p b st le here) (words_append by_path env store lowered n c ms w fits from b there p m st)
