-- An item that is appended.
use Rattle.std.proofs.Common.{◌≡◌, ℕ, List, [], ◌∷◌, ◌++◌, map, refl, sym, ◌∙◌, ap, subst}
use Rattle.std.specs.Prelude.{slice_get}
use Rattle.gl_base.specs.Texts.{Text}
use Rattle.gl_ast.specs.Template.{Body}
use Rattle.gl_meaning.specs.Path.{item, Path}
use Rattle.gl_meaning.specs.Eval.{Store}
use Rattle.gl_meaning.specs.Render.{Entry}
use Rattle.gl_opc.specs.Numbers.{parameter_symbol}
use Rattle.gl_plain.specs.State.{Names, MScope, mscope, named_as, with_names, State}
use Rattle.gl_plain.specs.Naming.{Naming}
use Rattle.gl_plain.specs.State as s
use Rattle.gl_plain.specs.Live.{ItemSpot}
use Rattle.gl_plain.specs.Grow.{or_comment, item_spot_as}
use Rattle.gl_plain.specs.Renew.{fresh_body_as, fresh_items_as}
use Rattle.gl_machine.specs.Sight.{Passing, with_locals}
use Rattle.gl_machine.specs.Code.{Listing}
use Rattle.gl_machine.specs.Outcome.{ok, on_ok}
use Rattle.gl_machine.specs.RenewCode.{Runs, start, commented, item_done, fresh_item_as}
use Rattle.gl_machine.specs.Env.{Env, symbols_at, by_symbol, texts_of, seen}
use Rattle.gl_machine.specs.Params.{Known, TwoKnown}
use Rattle.gl_machine.specs.Placed.{Fits, BodyThere, PlacedIn, FollowsIn, RunsRight_as}
use Rattle.gl_machine.proofs.Symbols.{known_two}
use Rattle.gl_machine.proofs.More.{seen_more, names_more, fits_more}
use Rattle.gl_machine.proofs.SyncsCode.{FollowsItem, fresh_follows}

module _ (naming : Naming) (env : Env) (store : Store) (run : Runs) (runs : RunsRight_as naming env store run) (m c : ℕ) (w : Passing) (pp : Path) (a : Body) (key : Text) (body other : ℕ) where
  module _ (ms : MScope) (fits : Fits env c ms w) where
    abbrev pub listing : List Text → Listing
    listing ns = record { key = key; value = parameter_symbol (symbols_at env c) (slice_get ns 0); index = parameter_symbol (symbols_at env c) (slice_get ns 1); body = body; other = other; sight = seen env c ms w }

    core : (ns : List Text) (z : ItemSpot) (st : State) → texts_of (named_as ns z.params) ≡ ns → Known (symbols_at env c) ns
        → BodyThere env c (texts_of (s.locals_in ms) ++ ns) body a
        → (let q = item z.key z.occurrence ∷ pp in
        FollowsItem naming env store run runs m c ms w pp ns a
        (on_ok (run (start (with_locals (map (by_symbol (symbols_at env c)) (named_as ns z.params)) (seen env c ms w)) body q m) st) (λ r. ok (item_done z (commented r))))
        (record { spot = z; arm = or_comment (fresh_body_as naming env.app store m (with_names (named_as ns z.params) ms) q a st) }))
    core ns z st names known there =
        let q = item z.key z.occurrence ∷ pp in
        let more = named_as ns z.params in
        let ms' = with_names more ms in
        fresh_follows naming env store run runs m c ms w pp ns a z (run (start (with_locals (map (by_symbol (symbols_at env c)) more) (seen env c ms w)) body q m) st) (fresh_body_as naming env.app store m ms' q a st)
        (subst (λ v. FollowsIn (PlacedIn env c ms' w q 0 a) (run (start v body q m) st) (fresh_body_as naming env.app store m ms' q a st)) (sym (seen_more env c ms w more))
        (runs c ms' w (fits_more env c ms w more fits (subst (Known (symbols_at env c)) (sym names) known)) body a
        (subst (λ ts. BodyThere env c ts body a) (sym (names_more ms more ∙ ap (λ ts. texts_of (s.locals_in ms) ++ ts) names)) there) q m st))

    pub ones : (ns : List Text) → TwoKnown (symbols_at env c) ns → BodyThere env c (texts_of (s.locals_in ms) ++ ns) body a → (x : Entry) (st : State)
        → FollowsItem naming env store run runs m c ms w pp ns a (fresh_item_as naming run (listing ns) m (item x.key x.occurrence ∷ pp) x st) (fresh_items_as naming env.app store m ms ns a (item x.key x.occurrence ∷ pp) x st)
    ones [] t there x st = let y = item_spot_as naming [] (item x.key x.occurrence ∷ pp) x st in core [] y.0 y.1 refl (known_two (symbols_at env c) [] t) there
    ones (n ∷ []) t there x st =
        let y = item_spot_as naming (n ∷ []) (item x.key x.occurrence ∷ pp) x st in core (n ∷ []) y.0 y.1 refl (known_two (symbols_at env c) (n ∷ []) t) there
    ones (n ∷ k ∷ []) t there x st =
        let y = item_spot_as naming (n ∷ k ∷ []) (item x.key x.occurrence ∷ pp) x st in
        core (n ∷ k ∷ []) y.0 y.1 refl (known_two (symbols_at env c) (n ∷ k ∷ []) t) there
    ones (n ∷ k ∷ j ∷ ns) t there x st = absurd t
