-- The next entry of a list that is read again, with the old item that was taken for it.
use Rattle.std.specs.Prelude.{◌≡◌, List, [], ◌∷◌, ◌++◌, reverse, Option, Some, None}
use Rattle.gl_each.specs.Sync.{Step}
use Rattle.gl_each.specs.View.{seen_steps}
use Rattle.gl_update.specs.OldItems.{TakenBy, is_move, unboxed}
use Rattle.gl_update.specs.declared.old_items.Work.{Work}
use Rattle.gl_update.specs.declared.old_items.Next.{Next}

-- it is that of the next step, and the work goes on behind it; where there is none, no entry waits
pub record Taking (w v : Work) (x : Next) : Type 0 where
  pub waits : w.waiting.items ≡ v.waiting.items ++ x.entry.value ∷ []
  pub keys : v.keys ≡ w.keys
  pub taken : (s : Step) (ss : List Step) → reverse (seen_steps w.steps.items) ≡ s ∷ ss → (reverse (seen_steps v.steps.items) ≡ ss) × TakenBy s w.olds.items v.olds.items (unboxed x.old)
  pub moves : (s : Step) (ss : List Step) → reverse (seen_steps w.steps.items) ≡ s ∷ ss → x.moves ≡ is_move s

abbrev pub Follows : Work → Work → Option Next → Type 0
Follows w v None = (w.waiting.items ≡ []) × (v.olds ≡ w.olds)
Follows w v (Some x) = Taking w v x
