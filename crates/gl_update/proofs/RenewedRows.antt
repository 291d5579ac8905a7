-- What an update does to the nodes of a list of statements or of items, one after another.
use Rattle.std.proofs.Common.{◌≡◌, ◌≤◌, ◌<◌, ℕ, ◌+◌, List, [], ◌∷◌, ◌++◌, take, set, length, get_or, Option, refl, sym, ap, subst, ◌∙◌, arith}
use Rattle.std.proofs.lemmas.List.{take_all, take_more, take_more_set}
use Rattle.gl_nodes.specs.Tree.{Tree}
use Rattle.gl_machine.specs.Shape.{Nest, end, joined}
use Rattle.gl_vm.specs.View.{Tables}
use Rattle.gl_code.specs.declared.code.Codes.{Codes}
use Rattle.gl_code.specs.declared.code.ItemCode.{ItemCode}
use Rattle.gl_seats.specs.Parts.{code_nest, codes_nest, item_nest, items_nest}
use Rattle.gl_seats.specs.Seats.{SeatsBefore, NodesRenewed}
use Rattle.gl_seats.proofs.Replacing.{seats_joined, seats_nothing}
use Rattle.gl_seats.proofs.Rows.{row, row_last}
use Rattle.gl_seats.proofs.CodeRows.{codes_row, items_row}
use Rattle.gl_code.proofs.Rooting.{roots_refl}
use Rattle.gl_update.proofs.Renewed.{nodes_same, nodes_as, nodes_joined}

pub items_more : (n : Tables) (xs : List ItemCode) (x : ItemCode) → joined (items_nest n xs) (item_nest n x) ≡ items_nest n (xs ++ x ∷ [])
items_more n xs x = ap (λ z. joined z (item_nest n x)) (items_row n xs) ∙ (sym (row_last (item_nest n) xs x) ∙ sym (items_row n (xs ++ x ∷ [])))

-- Those before a place are renewed.

module _ {A : Type 0} (one : Tables → A → Nest ℕ) where
  abbrev pub RowRenewed : Tree → Tree → ℕ → ℕ → Option ℕ → List A → List A → ℕ → Type 0
  RowRenewed old new b a p olds items i = NodesRenewed old new b a p (λ n. row (one n) (take i olds)) (λ n. row (one n) (take i items))

  pub row_begin : (t : Tree) (b : ℕ) (p : Option ℕ) (olds items : List A) → RowRenewed t t b b p olds items 0
  row_begin t b p olds items = nodes_same t t b b p (λ n. end) (roots_refl t) refl

  pub row_next : (old mid new : Tree) (b m a : ℕ) (p : Option ℕ) (olds items : List A) (i : ℕ) (x y : A) → i < length items → length items ≡ length olds → x ≡ get_or olds i x → RowRenewed old mid b m p olds items i
      → NodesRenewed mid new m a p (λ n. one n x) (λ n. one n y) → RowRenewed old new b a p olds (set items i y) (i + 1)
  row_next old mid new b m a p olds items i x y lt long is w h =
      let less : i < length olds = omega (arith, lt, long) in
      nodes_as old new b a p (λ n. joined (row (one n) (take i olds)) (one n x)) (λ n. row (one n) (take (i + 1) olds)) (λ n. joined (row (one n) (take i items)) (one n y)) (λ n. row (one n) (take (i + 1) (set items i y)))
      (λ n. sym (row_last (one n) (take i olds) x) ∙ ap (row (one n)) (sym (take_more olds i x less ∙ ap (λ z. take i olds ++ z ∷ []) (sym is))))
      (λ n. sym (row_last (one n) (take i items) y) ∙ ap (row (one n)) (sym (take_more_set items i y lt)))
      (nodes_joined old mid new b m a p (λ n. row (one n) (take i olds)) (λ n. row (one n) (take i items)) (λ n. one n x) (λ n. one n y) w h)

  pub row_end : (old new : Tree) (b a : ℕ) (p : Option ℕ) (olds news items : List A) (i : ℕ) → length items ≡ length olds → length items ≤ i → items ≡ news → RowRenewed old new b a p olds items i
      → NodesRenewed old new b a p (λ n. row (one n) olds) (λ n. row (one n) news)
  row_end old new b a p olds news items i long le is w =
      let more : length olds ≤ i = omega (arith, le, long) in
      nodes_as old new b a p (λ n. row (one n) (take i olds)) (λ n. row (one n) olds) (λ n. row (one n) (take i items)) (λ n. row (one n) news) (λ n. ap (row (one n)) (take_all i olds more)) (λ n. ap (row (one n)) (take_all i items le ∙ is)) w

-- a body, of which this is the list of its statements
pub body_renewed : (old new : Tree) (b a : ℕ) (p : Option ℕ) (xs ys : Codes) → NodesRenewed old new b a p (λ n. row (code_nest n) xs.list.items) (λ n. row (code_nest n) ys.list.items) → NodesRenewed old new b a p (λ n. codes_nest n xs) (λ n. codes_nest n ys)
body_renewed old new b a p xs ys h =
    nodes_as old new b a p (λ n. row (code_nest n) xs.list.items) (λ n. codes_nest n xs) (λ n. row (code_nest n) ys.list.items) (λ n. codes_nest n ys) (λ n. sym (codes_row n xs xs.list.items refl)) (λ n. sym (codes_row n ys ys.list.items refl)) h

pub items_renewed : (old new : Tree) (b a : ℕ) (p : Option ℕ) (xs ys : List ItemCode) → NodesRenewed old new b a p (λ n. row (item_nest n) xs) (λ n. row (item_nest n) ys) → NodesRenewed old new b a p (λ n. items_nest n xs) (λ n. items_nest n ys)
items_renewed old new b a p xs ys h =
    nodes_as old new b a p (λ n. row (item_nest n) xs) (λ n. items_nest n xs) (λ n. row (item_nest n) ys) (λ n. items_nest n ys) (λ n. sym (items_row n xs)) (λ n. sym (items_row n ys)) h

-- New items, one after another, each behind the one before it.

pub items_seated : (old mid new : Tree) (n : Tables) (p next : Option ℕ) (done zs : List ItemCode) (x : ItemCode) → zs ≡ done ++ x ∷ [] → SeatsBefore old.forest mid.forest p next (items_nest n done) → SeatsBefore mid.forest new.forest p next (item_nest n x)
    → SeatsBefore old.forest new.forest p next (items_nest n zs)
items_seated old mid new n p next done zs x is a b =
    subst (λ y. SeatsBefore old.forest new.forest p next y) (items_more n done x ∙ ap (items_nest n) (sym is)) (seats_joined old.forest mid.forest new.forest p next (items_nest n done) (item_nest n x) a b)

pub none_seated : (t : Tree) (n : Tables) (p next : Option ℕ) (xs : List ItemCode) → xs ≡ [] → SeatsBefore t.forest t.forest p next (items_nest n xs)
none_seated t n p next xs is = subst (λ ys. SeatsBefore t.forest t.forest p next (items_nest n ys)) (sym is) (seats_nothing t.forest p next)
