-- What is gone from the tree when what was rendered ends.
use Rattle.std.proofs.Common.{◌≡◌, ℕ, ◌+◌, ◌<◌, ◌≤◌, List, map, drop, length, get_or, rules, sym, subst, ◌∙◌}
use Rattle.gl_nodes.specs.Forest.{Forest}
use Rattle.gl_nodes.specs.Tree.{Tree}
use Rattle.gl_machine.specs.Shape.{Nest, leaf}
use Rattle.gl_vm.specs.View.{Tables}
use Rattle.gl_code.specs.declared.code.Code.{Code, the_lemmas}
use Rattle.gl_code.specs.declared.code.Codes.{Codes}
use Rattle.gl_code.specs.declared.code.ItemCode.{ItemCode}
use Rattle.gl_code.specs.declared.code.Code.TheVariants.{Still, Put}
use Rattle.gl_seats.specs.Parts.{code_nest, codes_nest, item_nest, items_nest}
use Rattle.gl_seats.specs.Seats.{Unseats, UnseatsEach}
use Rattle.gl_seats.proofs.Replacing.{unseats_all}
use Rattle.gl_seats.proofs.Rows.{row, row_all, unseats_go, unseats_end, each_go, each_end}
use Rattle.gl_seats.proofs.CodeRows.{codes_row, items_row}

-- the tree is the same before, or after
pub gone_after : (f : Forest) (mid new : Tree) (x : Nest ℕ) → new ≡ mid → Unseats f mid.forest x → Unseats f new.forest x
gone_after f mid new x e a = subst (λ t. Unseats f t.forest x) (sym e) a

pub gone_before : (old mid : Tree) (g : Forest) (x : Nest ℕ) → mid ≡ old → Unseats mid.forest g x → Unseats old.forest g x
gone_before old mid g x e a = subst (λ t. Unseats t.forest g x) e a

module _ (n : Tables) where
  pub still_nest : (node : _) → code_nest n (Still node) ≡ leaf node.1
  still_nest node = search (rules, the_lemmas)

  pub put_nest : (node spot : _) → code_nest n (Put node spot) ≡ leaf node.1
  put_nest node spot = search (rules, the_lemmas)

  pub gone_items : (f g : Forest) (xs : List ItemCode) → UnseatsEach f g (map (item_nest n) xs) → Unseats f g (items_nest n xs)
  gone_items f g xs a = subst (Unseats f g) (row_all (item_nest n) xs ∙ sym (items_row n xs)) (unseats_all f g (map (item_nest n) xs) a)

-- where what is left from a place on is gone, all is
abbrev pub CodesGone : List Code → ℕ → Forest → Forest → Type 0
CodesGone xs i first now = (n : Tables) (v : Forest) → Unseats now v (row (code_nest n) (drop i xs)) → Unseats first v (row (code_nest n) xs)

module _ (xs : List Code) (i : ℕ) (first now : Forest) (left : CodesGone xs i first now) where
  pub codes_step : (x : Code) (new : Forest) → i < length xs → x ≡ get_or xs i x → ((n : Tables) → Unseats now new (code_nest n x)) → CodesGone xs (i + 1) first new
  codes_step x new lt is e n v h = left n v (unseats_go (code_nest n) now new v xs i x lt is (e n) h)

  pub codes_done : length xs ≤ i → (codes : Codes) → xs ≡ codes.list.items → (n : Tables) → Unseats first now (codes_nest n codes)
  codes_done le codes e n = subst (Unseats first now) (sym (codes_row n codes xs e)) (left n now (unseats_end (code_nest n) now xs i le))

abbrev pub ItemsGone : List ItemCode → ℕ → Forest → Forest → Type 0
ItemsGone xs i first now = (n : Tables) (v : Forest) → UnseatsEach now v (map (item_nest n) (drop i xs)) → UnseatsEach first v (map (item_nest n) xs)

module _ (xs : List ItemCode) (i : ℕ) (first now : Forest) (left : ItemsGone xs i first now) where
  pub items_step : (x : ItemCode) (new : Forest) → i < length xs → x ≡ get_or xs i x → ((n : Tables) → Unseats now new (item_nest n x)) → ItemsGone xs (i + 1) first new
  items_step x new lt is e n v h = left n v (each_go (item_nest n) now new v xs i x lt is (e n) h)

  pub items_done : length xs ≤ i → (n : Tables) → UnseatsEach first now (map (item_nest n) xs)
  items_done le n = left n now (each_end (item_nest n) now xs i le)
