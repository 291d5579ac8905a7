-- A forest of what can be destroyed.
use Rattle.std.specs.Prelude.{◌≡◌, ℕ, ◌+◌, ◌<◌, ◌≤◌, List, [], ◌∷◌, ◌++◌, map, filter, Option, Some, None, if◌then◌else◌, refl}
use Rattle.std.proofs.Common.{ap, ◌∙◌}
use Rattle.std.specs.Coded.{Coded, code_by, coded×, coded_ℕ, coded_list, coded_option}
use Rattle.gl_arena.specs.Id.{Id, same_id}
use Rattle.gl_destroy.specs.What.{What, what_code, is_logged}

-- nothing, or a tree: an id with what it stands for, the forest of its children, and the trees after it
pub data Forest : Type 0 where
  end : Forest
  tree : Id → What → Forest → Forest → Forest

-- the trees of the first, and after them those of the second
abbrev pub joined : Forest → Forest → Forest
joined end g = g
joined (tree i w k r) g = tree i w k (joined r g)

-- one without children
abbrev pub leaf : Id → What → Forest
leaf i w = tree i w end end

-- 1 where the ids are the same, and else 0
unfoldable pub hit : Id → Id → ℕ
hit x i = if same_id x i then 1 else 0

-- how often an id stands in a forest
abbrev pub times : Id → Forest → ℕ
times x end = 0
times x (tree i w k r) = hit x i + (times x k + times x r)

-- further children after those of one parent
abbrev pub with_children : Id → Forest → Forest → Forest
with_children p g end = end
with_children p g (tree i w k r) = tree i w (joined (with_children p g k) (if same_id i p then g else end)) (with_children p g r)

-- One more as the last child of a parent, or as the last tree where there is no parent.
abbrev pub put_last : Option Id → Id → What → Forest → Forest
put_last None i w f = joined f (leaf i w)
put_last (Some p) i w f = with_children p (leaf i w) f

-- the tree of an id, with all below it
abbrev pub tree_at : Id → Forest → Forest
tree_at x end = end
tree_at x (tree i w k r) = if same_id i x then tree i w k (tree_at x r) else joined (tree_at x k) (tree_at x r)

-- the forest without that tree
abbrev pub without : Id → Forest → Forest
without x end = end
without x (tree i w k r) = if same_id i x then without x r else tree i w (without x k) (without x r)

-- all that stands in a forest, children before their parents, and siblings in order
abbrev pub children_first : Forest → List (Id × What)
children_first end = []
children_first (tree i w k r) = (children_first k ++ (i, w) ∷ []) ++ children_first r

-- what a log tells where all of a forest is destroyed
abbrev pub destroy_lines : Forest → List What
destroy_lines f = filter is_logged (map (λ e. e.1) (children_first f))

-- The forest of those that were added and not destroyed, and how many ids were given.
pub record Destroyables : Type 0 where
  pub forest : Forest
  pub made : ℕ

-- there is no parent, or it stands in the forest
abbrev pub IsParent : Forest → Option Id → Type 0
IsParent f None = Unit {0}
IsParent f (Some p) = 0 < times p f

-- One is added under an id that was never given before: its stamp is the count before.
pub record Adds (old new : Destroyables) (parent : Option Id) (i : Id) (w : What) : Type 0 where
  pub stamp : i.1 ≡ old.made
  pub count : new.made ≡ old.made + 1
  pub vacant : times i old.forest ≡ 0
  pub forest : new.forest ≡ put_last parent i w old.forest

-- each id stands once, and was given before
pub record IsSound (d : Destroyables) : Type 0 where
  pub once : (i : Id) → times i d.forest ≤ 1
  pub below : (i : Id) → 0 < times i d.forest → i.1 < d.made
  pub apart : (i k : Id) → 0 < times i d.forest → 0 < times k d.forest → i.1 ≡ k.1 → i ≡ k

-- A forest is stored as marks that a stack reads back.

abbrev pub Mark : Type 0
Mark = Option (Id × What)

abbrev pub written : Forest → List Mark → List Mark
written end k = None ∷ k
written (tree i w f g) k = written f (written g (Some (i, w) ∷ k))

abbrev pub top : List Forest → Forest
top [] = end
top (f ∷ fs) = f

abbrev pub rest_of : List Forest → List Forest
rest_of [] = []
rest_of (f ∷ fs) = fs

abbrev pub read_mark : Mark → List Forest → List Forest
read_mark None fs = end ∷ fs
read_mark (Some e) fs = tree e.0 e.1 (top (rest_of fs)) (top fs) ∷ rest_of (rest_of fs)

abbrev pub read_marks : List Mark → List Forest → List Forest
read_marks [] fs = fs
read_marks (m ∷ ms) fs = read_marks ms (read_mark m fs)

read_marks-written : (f : Forest) (k : List Mark) (fs : List Forest) → read_marks (written f k) fs ≡ read_marks k (f ∷ fs)
read_marks-written end k fs = refl
read_marks-written (tree i w f g) k fs = read_marks-written f (written g (Some (i, w) ∷ k)) fs ∙ read_marks-written g (Some (i, w) ∷ k) (f ∷ fs)

pub top-written : (f : Forest) → top (read_marks (written f []) []) ≡ f
top-written f = ap top (read_marks-written f [] [])

abbrev pub forest_code : Coded Forest
forest_code = code_by (List Mark) (coded_list (coded_option (coded× (coded× coded_ℕ coded_ℕ) what_code))) (λ f. written f []) (λ ms. top (read_marks ms [])) top-written

abbrev pub destroyables_code : Coded Destroyables
destroyables_code =
    code_by (Forest × ℕ) (coded× forest_code coded_ℕ) (λ d. (d.forest, d.made)) (λ p. record { forest = p.0; made = p.1 }) (λ _. refl)
