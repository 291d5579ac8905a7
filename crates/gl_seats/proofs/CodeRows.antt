-- The nodes of statements and of items, side by side.
use Rattle.std.proofs.Common.{◌≡◌, ℕ, suc, ◌-◌, List, [], ◌∷◌, ◌++◌, length, Option, Some, None, map, refl, sym, ap, subst, ◌∙◌, OnOk, IfOk, Result, Ok, Err, arith}
use Rattle.std.specs.List.{slice_get}
use Rattle.std.proofs.lemmas.Result.{on_ok_weaker}
use Rattle.gl_nodes.specs.Forest.{Forest}
use Rattle.gl_nodes.specs.Flat.{head_of}
use Rattle.gl_machine.specs.Code.{lives_of}
use Rattle.gl_machine.specs.Shape.{Nest, joined, nest_in, nest_comment}
use Rattle.gl_vm.specs.View.{Tables}
use Rattle.gl_code.specs.Hung.{tops}
use Rattle.gl_code.specs.CodeView.{seen_code, all_codes}
use Rattle.gl_code.specs.declared.code.Code.{Code}
use Rattle.gl_code.specs.declared.code.Codes.{Codes}
use Rattle.gl_code.specs.declared.code.ItemCode.{ItemCode}
use Rattle.gl_code.proofs.CodeNests as c
use Rattle.gl_seats.specs.Parts.{code_nest, codes_nest, body_nest, item_nest, items_nest}
use Rattle.gl_seats.specs.Seats.{last_of, IsBehind, IsBefore}
use Rattle.gl_seats.proofs.Replacing.{behind_last, before_more}
use Rattle.gl_seats.proofs.Rows.{row, row_last}

module _ (n : Tables) where
  rows : (xs : List Code) → nest_in (lives_of (all_codes (map (seen_code n) xs))) ≡ row (code_nest n) xs
  rows [] = refl
  rows (x ∷ xs) = ap (joined (code_nest n x)) (rows xs)

  pub codes_row : (codes : Codes) (xs : List Code) → xs ≡ codes.list.items → codes_nest n codes ≡ row (code_nest n) xs
  codes_row codes xs e = ap (λ cs. nest_in (lives_of cs)) (c.body_is n codes ∙ ap (λ ys. all_codes (map (seen_code n) ys)) (sym e)) ∙ rows xs

  pub items_row : (xs : List ItemCode) → items_nest n xs ≡ row (item_nest n) xs
  items_row [] = refl
  items_row (x ∷ xs) = ap (joined (item_nest n x)) (items_row xs)

  pub item_body : (x : ItemCode) → item_nest n x ≡ body_nest n x.body x.comment
  item_body x = c.item_nest n x

-- what is told of another word for the nest of a statement
pub as_code : {T E : Type 0} (r : Result T E) (P : Nest ℕ → Type 0) (code other : Code) (y : Tables → Nest ℕ) → code ≡ other → ((n : Tables) → code_nest n other ≡ y n) → OnOk r ((n : Tables) → P (y n)) → OnOk r ((n : Tables) → P (code_nest n code))
as_code r P code other y is e a = on_ok_weaker r (λ h n. subst P (sym (ap (code_nest n) is ∙ e n)) (h n)) a

pub as_nest : (P : Nest ℕ → Type 0) (code other : Code) (y : Tables → Nest ℕ) → code ≡ other → ((n : Tables) → code_nest n other ≡ y n) → ((n : Tables) → P (y n)) → (n : Tables) → P (code_nest n code)
as_nest P code other y is e a n = subst P (sym (ap (code_nest n) is ∙ e n)) (a n)

-- what is told of each naming of fields and modifiers, told at once
pub on_ok_each : {T E : Type 0} (r : Result T E) (P : Tables → Type 0) → ((n : Tables) → OnOk r (P n)) → OnOk r ((n : Tables) → P n)
on_ok_each (Ok v) P h = h
on_ok_each (Err e) P h = tt

-- a naming that names nothing
abbrev pub no_tables : Tables
no_tables = record { fields = λ _. []; modifier = λ _. [] }

-- the comment alone
pub comment_first : (o : Option ℕ) → o ≡ head_of (tops (nest_comment o))
comment_first None = refl
comment_first (Some s) = refl

pub comment_last : (o : Option ℕ) → o ≡ last_of (tops (nest_comment o))
comment_last None = refl
comment_last (Some s) = refl

-- what is told of a value is another fact of it
pub if_ok_weaker : {T E : Type 0} (r : Result T E) (P Q : T → Type 0) → ((x : T) → P x → Q x) → IfOk r P → IfOk r Q
if_ok_weaker (Ok v) P Q f h = f v h
if_ok_weaker (Err e) P Q f h = tt

-- The first and the last of a list.

first_item : {T : Type 0} (xs : List T) (x : T) → Some x ≡ slice_get xs 0 → (rest : List T) × (xs ≡ x ∷ rest)
first_item [] x e = absurd (let no : Some x ≡ None = e in cc)
first_item (y ∷ ys) x e = (ys, ap (λ z. z ∷ ys) (sym (let same : Some x ≡ Some y = e in cc)))

last_item : {T : Type 0} (xs : List T) (x : T) → Some x ≡ slice_get xs (length xs - 1) → (front : List T) × (xs ≡ front ++ x ∷ [])
last_item [] x e = absurd (let no : Some x ≡ None = e in cc)
last_item (y ∷ []) x e = ([], ap (λ z. z ∷ []) (sym (let same : Some x ≡ Some y = e in cc)))
last_item (y ∷ (z ∷ zs)) x e = let q = last_item (z ∷ zs) x (e ∙ ap (slice_get (y ∷ (z ∷ zs))) (let w : length (y ∷ (z ∷ zs)) - 1 ≡ suc (length (z ∷ zs) - 1) = omega arith in w)) in (y ∷ q.0, ap (λ l. y ∷ l) q.1)

module _ (n : Tables) where
  -- what is before the first item is before all, and what is behind the last one is behind all
  pub items_before : (xs : List ItemCode) (x : ItemCode) (next : Option ℕ) → Some x ≡ slice_get xs 0 → IsBefore (body_nest n x.body x.comment) next → IsBefore (items_nest n xs) next
  items_before xs x next e before = let q = first_item xs x e in
      subst (λ z. IsBefore z next) (sym (items_row n xs ∙ ap (row (item_nest n)) q.1)) (before_more next (item_nest n x) (row (item_nest n) q.0) (subst (λ z. IsBefore z next) (sym (item_body n x)) before))

  pub items_behind : (f : Forest) (p next : Option ℕ) (xs : List ItemCode) (x : ItemCode) → Some x ≡ slice_get xs (length xs - 1) → IsBehind f p (body_nest n x.body x.comment) next → IsBehind f p (items_nest n xs) next
  items_behind f p next xs x e behind = let q = last_item xs x e in
      subst (λ z. IsBehind f p z next) (sym (items_row n xs ∙ (ap (row (item_nest n)) q.1 ∙ row_last (item_nest n) q.0 x)))
      (behind_last f p next (row (item_nest n) q.0) (item_nest n x) (subst (λ z. IsBehind f p z next) (sym (item_body n x)) behind))
