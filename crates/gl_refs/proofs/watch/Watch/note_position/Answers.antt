use Rattle.std.proofs.Common.{◌≡◌, Bool, true, false, List, [], ◌∷◌, refl}
use Rattle.std.specs.Prelude.{◌||◌}
use Rattle.gl_arena.specs.Id.{Id}
use Rattle.gl_refs.specs.Forms.{Each}
use Rattle.gl_refs.specs.Watch.{hot_in}
use Rattle.gl_refs.proofs.watch.Watch.note_position.Goals as goal

or_more : (a b c : Bool) → (b ≡ true → c ≡ true) → (a || b) ≡ true → (a || c) ≡ true
or_more true b c f e = refl
or_more false b c f e = f e

each_any : (P : Id → Type 0) (xs : List Id) → ((x : Id) → P x) → Each P xs
each_any P [] h = tt
each_any P (x ∷ xs) h = (h x, each_any P xs h)

pub returns-then-widen_all-clause-hotter : goal.returns-then-widen_all-clause-hotter
returns-then-widen_all-clause-hotter c n h = or_more c.args.self.now.lost (hot_in c.args.self.now.hot n) (hot_in c.add.new.self n) (c.add.ensures.old n) h

pub returns-else-widen_all-clause-covers : goal.returns-else-widen_all-clause-covers
returns-else-widen_all-clause-covers c = each_any (λ t. true ≡ true) c.args.tags.now (λ t. refl)
