-- The fronts of end tags, as they are told by cases, and what makes them whole.
use Rattle.std.proofs.Common.{◌≡◌, ◌≤◌, ℕ, zero, suc, List, [], ◌∷◌, ◌++◌, Bool, true, false, ◌||◌, ◌&&◌, ◌-◌, ◌⊎◌, not, inl, inr, Option, Some, None, length, drop, refl, sym, ap, ◌∙◌, subst, append_assoc, arith, eqb}
use Rattle.std.specs.Prelude.{if◌then◌else◌, codes}
use Rattle.std.proofs.lemmas.Bool.Decides.{nat_tests}
use Rattle.gl_base.specs.Answers.{◌>>=◌}
use Rattle.gl_base.specs.Names.{or_else, has_text}
use Rattle.gl_ast.specs.Marks.{is_white, is_capital, is_small, starts_name, in_name, in_class, in_tag}
use Rattle.gl_ast.specs.Scans.{after, begins, after_all, after_pieces}
use Rattle.gl_ast.specs.Words.{read_part, barred, if_block, after_white, after_name, after_class_part, after_more_class, after_class, after_tag, after_element_name, after_block_name, after_slot_name, after_label, after_tag_opening, after_end_tag}
use Rattle.gl_ast.proofs.Forward.{bind_some, if_some, same_byte, piece_step, piece_end}
use Rattle.gl_ast.proofs.BlockNames.{barred_ended, word_read, read_front, cut_last, block_whole, block_cut, longer_name}
use Rattle.gl_ast.proofs.Longest.{after_is_front}
use Rattle.gl_ast.proofs.Progress.{more_class_moves}
use Rattle.gl_lex.specs.Begun.{is_none, block_begun, block_or_none, slot_begun, slot_or_none, class_begun, class_or_none, tag_or_class, name_begun, name_or_front, end_tag_begun}
use Rattle.gl_lex.proofs.Continued.{nothing_is, both_none, or_left, or_right, front_split, begins_front, front_rest, after_more}
use Rattle.gl_lex.proofs.Steps.{shorter}

-- the first byte fails the test, or there is none
abbrev Halts : (ℕ → Bool) → List ℕ → Type 0
Halts p [] = Unit {0}
Halts p (b ∷ bs) = p b ≡ false

halted : (p : ℕ → Bool) (bs : List ℕ) → Halts p bs → after_all p bs ≡ bs
halted p [] h = refl
halted p (b ∷ bs) h = rw h refl

-- what a run leaves halts it
all_halts : (p : ℕ → Bool) (bs : List ℕ) → Halts p (after_all p bs)
all_halts p [] = tt
all_halts p (b ∷ bs) = by_test (p b) refl (all_halts p bs) where
  by_test : (t : Bool) → p b ≡ t → Halts p (after_all p bs) → Halts p (if t then after_all p bs else b ∷ bs)
  by_test true e more = more
  by_test false e more = e

-- with more after what it leaves, a run goes on in that
all_more : (p : ℕ → Bool) (bs more : List ℕ) → after_all p (bs ++ more) ≡ after_all p (after_all p bs ++ more)
all_more p [] more = refl
all_more p (b ∷ bs) more = by_test (p b) refl (all_more p bs more) where
  by_test : (t : Bool) → p b ≡ t → after_all p (bs ++ more) ≡ after_all p (after_all p bs ++ more) → (if t then after_all p (bs ++ more) else b ∷ (bs ++ more)) ≡ after_all p ((if t then after_all p bs else b ∷ bs) ++ more)
  by_test true e g = g
  by_test false e g = rw e refl

-- where something is left, it stays as it is
all_left : (p : ℕ → Bool) (bs : List ℕ) (b : ℕ) (rest more : List ℕ) → after_all p bs ≡ b ∷ rest → after_all p (bs ++ more) ≡ b ∷ (rest ++ more)
all_left p bs b rest more e =
    let h : p b ≡ false = subst (Halts p) e (all_halts p bs) in
    all_more p bs more ∙ ap (λ l. after_all p (l ++ more)) e ∙ halted p (b ∷ (rest ++ more)) h

-- where nothing is left, what follows is run through
all_through : (p : ℕ → Bool) (bs more : List ℕ) → after_all p bs ≡ [] → after_all p (bs ++ more) ≡ after_all p more
all_through p bs more e = all_more p bs more ∙ ap (λ l. after_all p (l ++ more)) e

-- where what follows halts it, it is left too
all_then : (p : ℕ → Bool) (bs more : List ℕ) → Halts p more → after_all p (bs ++ more) ≡ after_all p bs ++ more
all_then p bs more h = all_more p bs more ∙ by_left (after_all p bs) (all_halts p bs) where
  by_left : (xs : List ℕ) → Halts p xs → after_all p (xs ++ more) ≡ xs ++ more
  by_left [] g = halted p more h
  by_left (x ∷ xs) g = halted p (x ∷ (xs ++ more)) g

-- Names of classes.

-- what is left after further parts of a class
abbrev parts : List ℕ → List ℕ
parts bs = after_pieces after_more_class 0 bs

some_left : (x y : List ℕ) → ◌≡◌ {A = Option (List ℕ)} (Some x) (Some y) → x ≡ y
some_left x y e = cc

-- a part goes on over more, where something is left after it or what follows halts it
part_on : (bs rest more : List ℕ) → after_more_class bs ≡ Some rest → (rest ≡ [] → Halts in_class more) → after_more_class (bs ++ more) ≡ Some (rest ++ more)
unfolding after_more_class
part_on bs rest more e h =
    let s = bind_some (after (codes "::") bs) after_class_part rest e in
    ap (λ o. o >>= after_class_part) (after_more (codes "::") bs more s.0 s.1) ∙ by_word s.0 s.2 where
      by_word : (xs : List ℕ) → after_class_part xs ≡ Some rest → after_class_part (xs ++ more) ≡ Some (rest ++ more)
      by_word [] f = nothing_is rest f
      by_word (x ∷ xs) f =
          let t = if_some (is_capital x) (Some (after_all in_class xs)) rest f in
          let left = some_left (after_all in_class xs) rest t.1 in
          rw (t.0) (ap Some (by_rest rest left h)) where
            by_rest : (r : List ℕ) → after_all in_class xs ≡ r → (r ≡ [] → Halts in_class more) → after_all in_class (xs ++ more) ≡ r ++ more
            by_rest [] g k = all_through in_class xs more g ∙ halted in_class more (k refl)
            by_rest (r ∷ rs) g k = all_left in_class xs r rs more g

parts_within : (n : ℕ) (bs more : List ℕ) → length bs ≤ n → (parts bs ≡ [] → Halts in_class more) → parts (bs ++ more) ≡ parts (parts bs ++ more)
parts_within n [] more l h = refl
parts_within zero (b ∷ bs) more l h = absurd (omega (arith, l))
parts_within (suc n) (b ∷ bs) more l h = by_part (after_more_class (b ∷ bs)) refl (λ rest g k. parts_within n rest more g k) where
  by_part : (o : Option (List ℕ)) → after_more_class (b ∷ bs) ≡ o → ((rest : List ℕ) → length rest ≤ n → (parts rest ≡ [] → Halts in_class more) → parts (rest ++ more) ≡ parts (parts rest ++ more)) → parts ((b ∷ bs) ++ more) ≡ parts (parts (b ∷ bs) ++ more)
  by_part None e next = ap (λ l. parts (l ++ more)) (sym (piece_end after_more_class (b ∷ bs) e))
  by_part (Some rest) e next =
      let s = more_class_moves (b ∷ bs) rest e in
      let same = piece_step after_more_class (b ∷ bs) rest e s in
      let f = shorter (b ∷ bs) rest s in
      let g = part_on (b ∷ bs) rest more e (λ k. h (same ∙ ap parts k)) in
      piece_step after_more_class ((b ∷ bs) ++ more) (rest ++ more) g (more_class_moves ((b ∷ bs) ++ more) (rest ++ more) g)
      ∙ next rest (omega (arith, l, f)) (λ k. h (same ∙ k)) ∙ ap (λ l. parts (l ++ more)) (sym same)

-- the parts go on over more, where something is left after them or what follows halts them
parts_on : (bs more : List ℕ) → (parts bs ≡ [] → Halts in_class more) → parts (bs ++ more) ≡ parts (parts bs ++ more)
parts_on bs more h = let l : length bs ≤ length bs = omega arith in parts_within (length bs) bs more l h

stop_within : (n : ℕ) (bs : List ℕ) → length bs ≤ n → after_more_class (parts bs) ≡ None
unfolding after_more_class
stop_within n [] l = refl
stop_within zero (b ∷ bs) l = absurd (omega (arith, l))
stop_within (suc n) (b ∷ bs) l = by_part (after_more_class (b ∷ bs)) refl (λ rest g. stop_within n rest g) where
  by_part : (o : Option (List ℕ)) → after_more_class (b ∷ bs) ≡ o → ((rest : List ℕ) → length rest ≤ n → after_more_class (parts rest) ≡ None) → after_more_class (parts (b ∷ bs)) ≡ None
  by_part None e next = ap after_more_class (piece_end after_more_class (b ∷ bs) e) ∙ e
  by_part (Some rest) e next =
      let s = more_class_moves (b ∷ bs) rest e in
      let f = shorter (b ∷ bs) rest s in
      ap after_more_class (piece_step after_more_class (b ∷ bs) rest e s) ∙ next rest (omega (arith, l, f))

-- no part stands after them
parts_stop : (bs : List ℕ) → after_more_class (parts bs) ≡ None
parts_stop bs = let l : length bs ≤ length bs = omega arith in stop_within (length bs) bs l

-- The name of an element or a class.

abbrev class_left : List ℕ → List ℕ
class_left bs = parts (after_all in_class bs)

tag_read : (b : ℕ) (bs : List ℕ) → is_small b ≡ true → after_tag (b ∷ bs) ≡ Some (after_all in_tag bs)
tag_read b bs e = rw e refl

capital_small : (b : ℕ) → is_capital b ≡ true → is_small b ≡ false
capital_small b e = grind (arith, nat_tests)

tag_none : (b : ℕ) (bs : List ℕ) → is_small b ≡ false → after_tag (b ∷ bs) ≡ None
tag_none b bs e = rw e refl

element_small : (b : ℕ) (bs : List ℕ) → is_small b ≡ true → after_element_name (b ∷ bs) ≡ Some (after_all in_tag bs)
unfolding after_element_name
element_small b bs e = rw e refl

element_class : (b : ℕ) (bs : List ℕ) → is_capital b ≡ true → after_element_name (b ∷ bs) ≡ Some (class_left bs)
unfolding after_element_name after_class
element_class b bs e = rw (capital_small b e, e) refl

element_none : (b : ℕ) (bs : List ℕ) → is_small b ≡ false → is_capital b ≡ false → after_element_name (b ∷ bs) ≡ None
unfolding after_element_name after_class
element_none b bs e f = rw (e, f) refl

-- The name of a block.

name_some : (b : ℕ) (bs : List ℕ) → starts_name b ≡ true → after_name (b ∷ bs) ≡ Some (after_all in_name bs)
name_some b bs e = rw e refl

block_name_reads : (b : ℕ) (bs : List ℕ) → starts_name b ≡ true → after_block_name (b ∷ bs) ≡ if_block (b ∷ bs) (after_all in_name bs)
unfolding after_block_name
block_name_reads b bs e = ap (λ o. o >>= if_block (b ∷ bs)) (name_some b bs e)

block_starts : (b : ℕ) (bs rest : List ℕ) → after_block_name (b ∷ bs) ≡ Some rest → starts_name b ≡ true
unfolding after_block_name
block_starts b bs rest e =
    let s = bind_some (after_name (b ∷ bs)) (if_block (b ∷ bs)) rest e in
    (if_some (starts_name b) (Some (after_all in_name bs)) s.0 s.1).0

-- where a name begins, the name of a block stands
block_stands : (b : ℕ) (bs : List ℕ) → starts_name b ≡ true → (y : List ℕ) × (after_block_name (b ∷ bs) ≡ Some y)
block_stands b bs e = by_test (has_text (read_part (b ∷ bs) (after_all in_name bs)) barred) refl where
  by_test : (t : Bool) → has_text (read_part (b ∷ bs) (after_all in_name bs)) barred ≡ t → (y : List ℕ) × (after_block_name (b ∷ bs) ≡ Some y)
  by_test true f = (_, block_name_reads b bs e ∙ block_cut (b ∷ bs) (after_all in_name bs) f)
  by_test false f = (_, block_name_reads b bs e ∙ block_whole (b ∷ bs) (after_all in_name bs) f)

-- What a tag names.

label_is : (bs x : List ℕ) → after_element_name bs ≡ Some x → after_label bs ≡ Some x
unfolding after_label
label_is bs x e = ap (λ o. or_else o (after_slot_name bs)) e

label_slot : (bs : List ℕ) → after_element_name bs ≡ None → after_label bs ≡ (after (codes ":") bs >>= after_block_name)
unfolding after_label after_slot_name
label_slot bs e = ap (λ o. or_else o (after_slot_name bs)) e

label_none : (bs : List ℕ) → after_label bs ≡ None → (after_element_name bs ≡ None) × ((after (codes ":") bs >>= after_block_name) ≡ None)
unfolding after_label after_slot_name
label_none bs e = both_none (after_element_name bs) (after (codes ":") bs >>= after_block_name) e

-- where no tag opens, and more bytes open one, there is but its first byte, or `<:`
pub name_stands : (b : ℕ) (bs more x : List ℕ) → after_tag_opening ((b ∷ bs) ++ more) ≡ Some x → after_tag_opening (b ∷ bs) ≡ None → (begins (b ∷ bs) (codes "<!--") ≡ true) ⊎ (begins (b ∷ bs) (codes "<:") ≡ true)
unfolding after_tag_opening
name_stands b bs more x e none =
    let s = bind_some (after (codes "<") ((b ∷ bs) ++ more)) after_label x e in
    let t = if_some (eqb 60 b) (Some (bs ++ more)) s.0 s.1 in
    by_name bs t.0 (ap after_label (some_left (bs ++ more) s.0 t.1) ∙ s.2) none where
      by_name : (xs : List ℕ) → eqb 60 b ≡ true → after_label (xs ++ more) ≡ Some x → (after (codes "<") (b ∷ xs) >>= after_label) ≡ None → (begins (b ∷ xs) (codes "<!--") ≡ true) ⊎ (begins (b ∷ xs) (codes "<:") ≡ true)
      by_name [] f g h = let back : eqb b 60 ≡ true = (let same = same_byte 60 b f in grind (arith, nat_tests)) in inl (rw back refl)
      by_name (c ∷ cs) f g h = by_first (is_small c) (is_capital c) refl refl where
        nothing : after_label (c ∷ cs) ≡ None
        nothing = (let read : (after (codes "<") (b ∷ c ∷ cs) >>= after_label) ≡ after_label (c ∷ cs) = rw f refl in sym read ∙ h)

        stands : {A : Type 0} (y : List ℕ) → after_element_name (c ∷ cs) ≡ Some y → A
        stands y k = nothing_is y (sym nothing ∙ label_is (c ∷ cs) y k)

        by_block : (ds : List ℕ) → eqb 58 c ≡ true → after_block_name (ds ++ more) ≡ Some x → after_block_name ds ≡ None → begins (b ∷ c ∷ ds) (codes "<:") ≡ true
        by_block [] k l n =
            let back : eqb b 60 ≡ true = (let same = same_byte 60 b f in grind (arith, nat_tests)) in
            let also : eqb c 58 ≡ true = (let same = same_byte 58 c k in grind (arith, nat_tests)) in
            rw (back, also) refl
        by_block (d ∷ ds) k l n = let y = block_stands d ds (block_starts d (ds ++ more) x l) in nothing_is y.0 (sym n ∙ y.1)

        by_first : (u v : Bool) → is_small c ≡ u → is_capital c ≡ v → (begins (b ∷ c ∷ cs) (codes "<!--") ≡ true) ⊎ (begins (b ∷ c ∷ cs) (codes "<:") ≡ true)
        by_first true v k l = stands _ (element_small c cs k)
        by_first false true k l = stands _ (element_class c cs l)
        by_first false false k l =
            let z = bind_some (after (codes ":") ((c ∷ cs) ++ more)) after_block_name x (sym (label_slot ((c ∷ cs) ++ more) (element_none c (cs ++ more) k l)) ∙ g) in
            let t = if_some (eqb 58 c) (Some (cs ++ more)) z.0 z.1 in
            let read : (after (codes ":") (c ∷ cs) >>= after_block_name) ≡ after_block_name cs = rw (t.0) refl in
            inr (by_block cs t.0 (ap after_block_name (some_left (cs ++ more) z.0 t.1) ∙ z.2) (sym read ∙ (label_none (c ∷ cs) nothing).1))

-- The end of an end tag after its name.

abbrev ending : List ℕ → Option (List ℕ)
ending bs = after_white bs >>= after (codes ">")

sign_only : (xs : List ℕ) → after (codes ">") xs ≡ Some [] → xs ≡ 62 ∷ []
sign_only xs e = after_is_front (codes ">") xs [] e

-- with more to come, only white space was left
white_left : (left : List ℕ) (m : ℕ) (ms : List ℕ) → ending (left ++ m ∷ ms) ≡ Some [] → is_none (after_all is_white left) ≡ true
white_left left m ms e = by_white (after_all is_white left) refl where
  by_white : (xs : List ℕ) → after_all is_white left ≡ xs → is_none xs ≡ true
  by_white [] f = refl
  by_white (x ∷ xs) f =
      let all : x ∷ (xs ++ m ∷ ms) ≡ 62 ∷ [] = sym (all_left is_white left x xs (m ∷ ms) f) ∙ sign_only (after_all is_white (left ++ m ∷ ms)) e in
      absurd (longer xs all) where
        longer : (ys : List ℕ) → x ∷ (ys ++ m ∷ ms) ≡ 62 ∷ [] → ⊥
        longer [] g = cc
        longer (y ∷ ys) g = cc

-- white space and `>` end it
ends_white : (left : List ℕ) → is_none (after_all is_white left) ≡ true → ending (left ++ codes ">") ≡ Some []
ends_white left e = by_white (after_all is_white left) refl e where
  by_white : (xs : List ℕ) → after_all is_white left ≡ xs → is_none xs ≡ true → ending (left ++ codes ">") ≡ Some []
  by_white [] f g = ap (after (codes ">")) (all_through is_white left (codes ">") f)
  by_white (x ∷ xs) f g = let r : ⊥ = cc in absurd r

-- What goes on to an end tag is told.

-- after `</`: a name with more to come
abbrev goes : List ℕ → List ℕ → Type 0
goes name more = (after_label (name ++ more) >>= ending) ≡ Some []

small_begun : (b : ℕ) (bs : List ℕ) (m : ℕ) (ms : List ℕ) → is_small b ≡ true → goes (b ∷ bs) (m ∷ ms) → name_begun (b ∷ bs) ≡ true
unfolding name_begun
small_begun b bs m ms s e =
    let f : ending (after_all in_tag (bs ++ m ∷ ms)) ≡ Some [] = sym (ap (λ o. o >>= ending) (label_is (b ∷ (bs ++ m ∷ ms)) _ (element_small b (bs ++ m ∷ ms) s))) ∙ e in
    ap (tag_or_class (b ∷ bs)) (tag_read b bs s) ∙ by_left (after_all in_tag bs) refl f where
      by_left : (xs : List ℕ) → after_all in_tag bs ≡ xs → ending (after_all in_tag (bs ++ m ∷ ms)) ≡ Some [] → is_none (after_all is_white (after_all in_tag bs)) ≡ true
      by_left [] g h = ap (λ l. is_none (after_all is_white l)) g
      by_left (x ∷ xs) g h = ap (λ l. is_none (after_all is_white l)) g ∙ white_left (x ∷ xs) m ms (sym (ap ending (all_left in_tag bs x xs (m ∷ ms) g)) ∙ h)

-- after the parts of a class
class_left_begun : (left : List ℕ) (m : ℕ) (ms : List ℕ) → after_more_class left ≡ None → ending (parts (left ++ m ∷ ms)) ≡ Some [] → class_begun left ≡ true
unfolding after_more_class
class_left_begun left m ms stop e = by_part (after_more_class (left ++ m ∷ ms)) refl where
  by_part : (o : Option (List ℕ)) → after_more_class (left ++ m ∷ ms) ≡ o → class_begun left ≡ true
  by_part None f = or_left (is_none (after_all is_white left)) (begins left (codes "::")) (white_left left m ms (sym (ap ending (piece_end after_more_class (left ++ m ∷ ms) f)) ∙ e))
  by_part (Some rest) f =
      let s = bind_some (after (codes "::") (left ++ m ∷ ms)) after_class_part rest f in
      or_right (is_none (after_all is_white left)) (begins left (codes "::")) (elim (front_split (codes "::") left (m ∷ ms) s.0 s.1) [
        | inl h ↦ h
        | inr h ↦ by_word h.0 h.1 (subst (λ l. after_class_part l ≡ Some rest) h.2 s.2)
      ]) where
        by_word : (y : List ℕ) → after (codes "::") left ≡ Some y → after_class_part (y ++ m ∷ ms) ≡ Some rest → begins left (codes "::") ≡ true
        by_word [] g h = ap (λ l. begins l (codes "::")) (after_is_front (codes "::") left [] g)
        by_word (y ∷ ys) g h =
            let t = if_some (is_capital y) (Some (after_all in_class (ys ++ m ∷ ms))) rest h in
            let here : (after (codes "::") left >>= after_class_part) ≡ Some (after_all in_class ys) = ap (λ o. o >>= after_class_part) g ∙ rw (t.0) refl in
            nothing_is (after_all in_class ys) (sym stop ∙ here)

class_name_begun : (b : ℕ) (bs : List ℕ) (m : ℕ) (ms : List ℕ) → is_capital b ≡ true → goes (b ∷ bs) (m ∷ ms) → name_begun (b ∷ bs) ≡ true
unfolding name_begun
class_name_begun b bs m ms s e =
    let f : ending (class_left (bs ++ m ∷ ms)) ≡ Some [] = sym (ap (λ o. o >>= ending) (label_is (b ∷ (bs ++ m ∷ ms)) _ (element_class b (bs ++ m ∷ ms) s))) ∙ e in
    ap (tag_or_class (b ∷ bs)) (tag_none b bs (capital_small b s)) ∙ ap (class_or_none (b ∷ bs)) (element_class b bs s) ∙ by_left (after_all in_class bs) refl f where
      by_left : (xs : List ℕ) → after_all in_class bs ≡ xs → ending (class_left (bs ++ m ∷ ms)) ≡ Some [] → class_begun (class_left bs) ≡ true
      by_left [] g h = ap (λ l. class_begun (parts l)) g
      by_left (x ∷ xs) g h = ap (λ l. class_begun (parts l)) g ∙ by_parts (parts (x ∷ xs)) refl where
        reached : ending (parts ((x ∷ xs) ++ m ∷ ms)) ≡ Some []
        reached = sym (ap (λ l. ending (parts l)) (all_left in_class bs x xs (m ∷ ms) g)) ∙ h

        by_parts : (ys : List ℕ) → parts (x ∷ xs) ≡ ys → class_begun (parts (x ∷ xs)) ≡ true
        by_parts [] k = ap class_begun k
        by_parts (y ∷ ys) k =
            let some : parts (x ∷ xs) ≡ [] → Halts in_class (m ∷ ms) = (λ n. let r : ⊥ = cc in absurd r) in
            class_left_begun (parts (x ∷ xs)) m ms (parts_stop (x ∷ xs)) (sym (ap ending (parts_on (x ∷ xs) (m ∷ ms) some)) ∙ reached)

-- after the name in the end tag of a block

last_stays : (c : ℕ) (rest : List ℕ) → in_name c ≡ true → ending (c ∷ rest) ≡ None
last_stays c rest e =
    let tight : is_white c ≡ false = grind (arith, nat_tests) in
    let other : eqb 62 c ≡ false = grind (arith, nat_tests) in
    rw (tight, other) refl

-- a name that no block has does not go on to an end
cut_stays : (bs x : List ℕ) (w : List ℕ) → bs ≡ w ++ x → has_text w barred ≡ true → (if_block bs x >>= ending) ≡ None
cut_stays bs x w whole e =
    let d = barred_ended w e in
    let part : read_part bs x ≡ w = ap (λ l. read_part l x) whole ∙ read_front w x in
    let all : bs ≡ ((d.0 ∷ d.1) ++ d.2 ∷ []) ++ x = whole ∙ ap (λ l. l ++ x) d.3 in
    ap (λ o. o >>= ending) (block_cut bs x (ap (λ n. has_text n barred) part ∙ e))
    ∙ ap ending (ap (λ l. drop (length l - length x - 1) l) all ∙ cut_last (d.0 ∷ d.1) x d.2) ∙ last_stays d.2 x d.5

block_left_begun : (c : ℕ) (cs : List ℕ) (m : ℕ) (ms : List ℕ) → starts_name c ≡ true → (after_block_name ((c ∷ cs) ++ m ∷ ms) >>= ending) ≡ Some [] → (left : List ℕ) → after_all in_name cs ≡ left → block_begun (c ∷ cs) left ≡ true
block_left_begun c cs m ms s e [] f = refl
block_left_begun c cs m ms s e (x ∷ xs) f =
    let r = word_read (c ∷ cs) (x ∷ xs) (name_some c cs s ∙ ap Some f) in
    let part : read_part (c ∷ cs) (x ∷ xs) ≡ r.0 ∷ r.1 = ap (λ l. read_part l (x ∷ xs)) r.2 ∙ read_front (r.0 ∷ r.1) (x ∷ xs) in
    let more : (c ∷ cs) ++ m ∷ ms ≡ (r.0 ∷ r.1) ++ (x ∷ (xs ++ m ∷ ms)) = ap (λ l. l ++ m ∷ ms) r.2 ∙ append_assoc (r.0 ∷ r.1) (x ∷ xs) (m ∷ ms) in
    let on : (if_block ((c ∷ cs) ++ m ∷ ms) (x ∷ (xs ++ m ∷ ms)) >>= ending) ≡ Some [] =
    ap (λ o. o >>= ending) (ap (if_block ((c ∷ cs) ++ m ∷ ms)) (sym (all_left in_name cs x xs (m ∷ ms) f)) ∙ sym (block_name_reads c (cs ++ m ∷ ms) s)) ∙ e in
    by_test (r.0 ∷ r.1) part more on (has_text (r.0 ∷ r.1) barred) refl where
      by_test : (w : List ℕ) → read_part (c ∷ cs) (x ∷ xs) ≡ w → (c ∷ cs) ++ m ∷ ms ≡ w ++ (x ∷ (xs ++ m ∷ ms)) → (if_block ((c ∷ cs) ++ m ∷ ms) (x ∷ (xs ++ m ∷ ms)) >>= ending) ≡ Some []
          → (t : Bool) → has_text w barred ≡ t → block_begun (c ∷ cs) (x ∷ xs) ≡ true
      by_test w part more on true g = nothing_is [] (sym (cut_stays ((c ∷ cs) ++ m ∷ ms) (x ∷ (xs ++ m ∷ ms)) w more g) ∙ on)
      by_test w part more on false g =
          let whole : read_part ((c ∷ cs) ++ m ∷ ms) (x ∷ (xs ++ m ∷ ms)) ≡ w = ap (λ l. read_part l (x ∷ (xs ++ m ∷ ms))) more ∙ read_front w (x ∷ (xs ++ m ∷ ms)) in
          let white : is_none (after_all is_white (x ∷ xs)) ≡ true =
          white_left (x ∷ xs) m ms (sym (ap (λ o. o >>= ending) (block_whole ((c ∷ cs) ++ m ∷ ms) (x ∷ (xs ++ m ∷ ms)) (ap (λ n. has_text n barred) whole ∙ g))) ∙ on) in
          ap (λ b. b && not (has_text (read_part (c ∷ cs) (x ∷ xs)) barred)) white ∙ ap (λ n. not (has_text n barred)) part ∙ ap not g

slot_name_begun : (bs : List ℕ) (m : ℕ) (ms : List ℕ) → (after_block_name (bs ++ m ∷ ms) >>= ending) ≡ Some [] → slot_begun bs ≡ true
unfolding slot_begun
slot_name_begun [] m ms e = refl
slot_name_begun (c ∷ cs) m ms e =
    let s = bind_some (after_block_name ((c ∷ cs) ++ m ∷ ms)) ending [] e in
    let first = block_starts c (cs ++ m ∷ ms) s.0 s.1 in
    ap (block_or_none (c ∷ cs)) (name_some c cs first) ∙ block_left_begun c cs m ms first e (after_all in_name cs) refl

slot_goes_begun : (b : ℕ) (bs : List ℕ) (m : ℕ) (ms : List ℕ) → is_small b ≡ false → is_capital b ≡ false → goes (b ∷ bs) (m ∷ ms) → name_begun (b ∷ bs) ≡ true
unfolding name_begun
slot_goes_begun b bs m ms f g e =
    let slot : ((after (codes ":") ((b ∷ bs) ++ m ∷ ms) >>= after_block_name) >>= ending) ≡ Some [] = ap (λ o. o >>= ending) (sym (label_slot ((b ∷ bs) ++ m ∷ ms) (element_none b (bs ++ m ∷ ms) f g))) ∙ e in
    let s = bind_some (after (codes ":") ((b ∷ bs) ++ m ∷ ms) >>= after_block_name) ending [] slot in
    let t = bind_some (after (codes ":") ((b ∷ bs) ++ m ∷ ms)) after_block_name s.0 s.1 in
    let u = if_some (eqb 58 b) (Some (bs ++ m ∷ ms)) t.0 t.1 in
    let here : after (codes ":") (b ∷ bs) ≡ Some bs = rw (u.0) refl in
    let all : after (codes ":") ((b ∷ bs) ++ m ∷ ms) ≡ Some (bs ++ m ∷ ms) = rw (u.0) refl in
    ap (tag_or_class (b ∷ bs)) (tag_none b bs f) ∙ ap (class_or_none (b ∷ bs)) (element_none b bs f g) ∙ ap (slot_or_none (b ∷ bs)) here
    ∙ slot_name_begun bs m ms (ap (λ o. (o >>= after_block_name) >>= ending) (sym all) ∙ slot)

name_goes_begun : (name : List ℕ) (m : ℕ) (ms : List ℕ) → goes name (m ∷ ms) → name_begun name ≡ true
unfolding name_begun after_element_name after_class
name_goes_begun [] m ms e = refl
name_goes_begun (b ∷ bs) m ms e = by_first (is_small b) (is_capital b) refl refl where
  by_first : (s c : Bool) → is_small b ≡ s → is_capital b ≡ c → name_begun (b ∷ bs) ≡ true
  by_first true c f g = small_begun b bs m ms f e
  by_first false true f g = class_name_begun b bs m ms g e
  by_first false false f g = slot_goes_begun b bs m ms f g e

end_tag_reads : (bs : List ℕ) → after_end_tag bs ≡ (after (codes "</") bs >>= λ name. (after_label name >>= ending))
unfolding after_end_tag
end_tag_reads bs = by_front (after (codes "</") bs) where
  by_name : (o : Option (List ℕ)) → (o >>= after_white >>= after (codes ">")) ≡ (o >>= ending)
  by_name None = refl
  by_name (Some x) = refl

  by_front : (o : Option (List ℕ)) → (o >>= after_label >>= after_white >>= after (codes ">")) ≡ (o >>= λ name. (after_label name >>= ending))
  by_front None = refl
  by_front (Some x) = by_name (after_label x)

pub end_tag_is_begun : (bs : List ℕ) (m : ℕ) (ms : List ℕ) → after_end_tag (bs ++ m ∷ ms) ≡ Some [] → end_tag_begun bs ≡ true
unfolding end_tag_begun
end_tag_is_begun bs m ms e =
    let s = bind_some (after (codes "</") (bs ++ m ∷ ms)) (λ name. (after_label name >>= ending)) [] (sym (end_tag_reads (bs ++ m ∷ ms)) ∙ e) in
    by_front (after (codes "</") bs) refl s.0 s.1 s.2 where
      by_front : (o : Option (List ℕ)) → after (codes "</") bs ≡ o → (x : List ℕ) → after (codes "</") (bs ++ m ∷ ms) ≡ Some x → (after_label x >>= ending) ≡ Some [] → name_or_front bs o ≡ true
      by_front None f x g h = begins_front (codes "</") bs (m ∷ ms) x g f
      by_front (Some name) f x g h =
          let same : name ++ m ∷ ms ≡ x = some_left (name ++ m ∷ ms) x (sym (after_more (codes "</") bs (m ∷ ms) name f) ∙ g) in
          name_goes_begun name m ms (ap (λ l. after_label l >>= ending) same ∙ h)

-- What is told goes on to an end tag.

-- such bytes make it whole
abbrev Goes : List ℕ → Type 0
Goes name = (more : List ℕ) × goes name more

small_goes : (b : ℕ) (bs : List ℕ) → is_small b ≡ true → is_none (after_all is_white (after_all in_tag bs)) ≡ true → Goes (b ∷ bs)
small_goes b bs s e =
    (codes ">", ap (λ o. o >>= ending) (label_is (b ∷ (bs ++ codes ">")) _ (element_small b (bs ++ codes ">") s)) ∙ ap ending (all_then in_tag bs (codes ">") refl) ∙ ends_white (after_all in_tag bs) e)

-- a byte of white space begins no part of a class
white_part : (left : List ℕ) → is_none (after_all is_white left) ≡ true → parts (left ++ codes ">") ≡ left ++ codes ">"
unfolding after_more_class
white_part [] e = refl
white_part (x ∷ xs) e = by_white (is_white x) refl e where
  by_white : (t : Bool) → is_white x ≡ t → is_none (if t then after_all is_white xs else x ∷ xs) ≡ true → parts ((x ∷ xs) ++ codes ">") ≡ (x ∷ xs) ++ codes ">"
  by_white true f g =
      let differs : eqb 58 x ≡ false = grind (arith, nat_tests) in
      let none : after_more_class ((x ∷ xs) ++ codes ">") ≡ None = rw differs refl in
      piece_end after_more_class ((x ∷ xs) ++ codes ">") none
  by_white false f g = let r : ⊥ = cc in absurd r

class_read : (b : ℕ) (bs more : List ℕ) → is_capital b ≡ true → (class_left bs ≡ [] → Halts in_class more) → after_label ((b ∷ bs) ++ more) ≡ Some (parts (class_left bs ++ more))
class_read b bs more s h = label_is ((b ∷ bs) ++ more) _ (element_class b (bs ++ more) s) ∙ ap (λ l. Some (parts l)) (by_left (after_all in_class bs) refl) ∙ ap Some (parts_on (after_all in_class bs) more h) where
  by_left : (xs : List ℕ) → after_all in_class bs ≡ xs → after_all in_class (bs ++ more) ≡ after_all in_class bs ++ more
  by_left [] f = all_through in_class bs more f ∙ halted in_class more (h (ap parts f)) ∙ ap (λ l. l ++ more) (sym f)
  by_left (x ∷ xs) f = all_left in_class bs x xs more f ∙ ap (λ l. l ++ more) (sym f)

class_whole : ending (parts (codes "::" ++ codes "A>")) ≡ Some []
unfolding after_more_class
class_whole = refl

class_goes : (b : ℕ) (bs : List ℕ) → is_capital b ≡ true → class_begun (class_left bs) ≡ true → Goes (b ∷ bs)
class_goes b bs s e = by_case (is_none (after_all is_white (class_left bs))) (begins (class_left bs) (codes "::")) refl refl e where
  by_case : (x y : Bool) → is_none (after_all is_white (class_left bs)) ≡ x → begins (class_left bs) (codes "::") ≡ y → (x || y) ≡ true → Goes (b ∷ bs)
  by_case true y f g h = (codes ">", ap (λ o. o >>= ending) (class_read b bs (codes ">") s (λ n. refl)) ∙ ap ending (white_part (class_left bs) f) ∙ ends_white (class_left bs) f)
  by_case false true f g h =
      let r = front_rest (class_left bs) (codes "::") g in
      let some : class_left bs ≡ [] → Halts in_class (r.0 ++ codes "A>") = (λ n. let both : true ≡ false = sym (ap (λ l. is_none (after_all is_white l)) n) ∙ f in let r : ⊥ = cc in absurd r) in
      let whole : class_left bs ++ (r.0 ++ codes "A>") ≡ codes "::" ++ codes "A>" = sym (append_assoc (class_left bs) r.0 (codes "A>")) ∙ ap (λ l. l ++ codes "A>") (sym r.1) in
      (r.0 ++ codes "A>", ap (λ o. o >>= ending) (class_read b bs (r.0 ++ codes "A>") s some) ∙ ap (λ l. ending (parts l)) whole ∙ class_whole)
  by_case false false f g h = let r : ⊥ = cc in absurd r

no_name_goes : Goes []
unfolding after_label after_element_name
no_name_goes = (codes "a>", refl)

-- after `:` in an end tag
abbrev block_goes : List ℕ → List ℕ → Type 0
block_goes name more = (after_block_name (name ++ more) >>= ending) ≡ Some []

-- what is left of a name that some block has is what follows it
block_on : (bs x w : List ℕ) → bs ≡ w ++ x → has_text w barred ≡ false → if_block bs x ≡ Some x
block_on bs x w whole e = block_whole bs x (ap (λ n. has_text n barred) (ap (λ l. read_part l x) whole ∙ read_front w x) ∙ e)

-- a name to the end: an `x` after it makes it the name of a block
name_ends_goes : (c : ℕ) (cs : List ℕ) → starts_name c ≡ true → after_all in_name cs ≡ [] → block_goes (c ∷ cs) (codes "x>")
name_ends_goes c cs s f =
    let left : after_all in_name (cs ++ codes "x>") ≡ codes ">" = all_through in_name cs (codes "x>") f in
    let whole : (c ∷ cs) ++ codes "x>" ≡ ((c ∷ cs) ++ 120 ∷ []) ++ codes ">" = sym (append_assoc (c ∷ cs) (120 ∷ []) (codes ">")) in
    ap (λ o. o >>= ending) (block_name_reads c (cs ++ codes "x>") s ∙ ap (if_block ((c ∷ cs) ++ codes "x>")) left
    ∙ block_on ((c ∷ cs) ++ codes "x>") (codes ">") ((c ∷ cs) ++ 120 ∷ []) whole (longer_name (c ∷ cs)))

-- the name of a block and white space
name_white_goes : (c : ℕ) (cs : List ℕ) (x : ℕ) (xs : List ℕ) → starts_name c ≡ true → after_all in_name cs ≡ x ∷ xs → is_none (after_all is_white (x ∷ xs)) ≡ true → has_text (read_part (c ∷ cs) (x ∷ xs)) barred ≡ false
    → block_goes (c ∷ cs) (codes ">")
name_white_goes c cs x xs s f white free =
    let r = word_read (c ∷ cs) (x ∷ xs) (name_some c cs s ∙ ap Some f) in
    let part : read_part (c ∷ cs) (x ∷ xs) ≡ r.0 ∷ r.1 = ap (λ l. read_part l (x ∷ xs)) r.2 ∙ read_front (r.0 ∷ r.1) (x ∷ xs) in
    let whole : (c ∷ cs) ++ codes ">" ≡ (r.0 ∷ r.1) ++ ((x ∷ xs) ++ codes ">") = ap (λ l. l ++ codes ">") r.2 ∙ append_assoc (r.0 ∷ r.1) (x ∷ xs) (codes ">") in
    ap (λ o. o >>= ending) (block_name_reads c (cs ++ codes ">") s ∙ ap (if_block ((c ∷ cs) ++ codes ">")) (all_left in_name cs x xs (codes ">") f)
    ∙ block_on ((c ∷ cs) ++ codes ">") ((x ∷ xs) ++ codes ">") (r.0 ∷ r.1) whole (ap (λ n. has_text n barred) (sym part) ∙ free))
    ∙ ends_white (x ∷ xs) white

both_sides : (a b : Bool) → (a && b) ≡ true → (a ≡ true) × (b ≡ true)
both_sides true b e = (refl, e)
both_sides false b e = let r : ⊥ = cc in absurd r

not_that : (b : Bool) → not b ≡ true → b ≡ false
not_that false e = refl
not_that true e = let r : ⊥ = cc in absurd r

-- after `:`, as the whole of an end tag
slot_goes : (b : ℕ) (bs more : List ℕ) → is_small b ≡ false → is_capital b ≡ false → eqb 58 b ≡ true → block_goes bs more → Goes (b ∷ bs)
slot_goes b bs more f g t e =
    let here : after (codes ":") ((b ∷ bs) ++ more) ≡ Some (bs ++ more) = rw t refl in
    (more, ap (λ o. o >>= ending) (label_slot ((b ∷ bs) ++ more) (element_none b (bs ++ more) f g) ∙ ap (λ o. o >>= after_block_name) here) ∙ e)

first_whole : block_goes [] (codes "a>")
unfolding after_block_name
first_whole = refl

slot_name_goes : (bs : List ℕ) → slot_begun bs ≡ true → (more : List ℕ) × block_goes bs more
unfolding slot_begun
slot_name_goes [] e = (codes "a>", first_whole)
slot_name_goes (c ∷ cs) e = by_first (starts_name c) refl where
  by_left : (left : List ℕ) → starts_name c ≡ true → after_all in_name cs ≡ left → block_begun (c ∷ cs) left ≡ true → (more : List ℕ) × block_goes (c ∷ cs) more
  by_left [] s f g = (codes "x>", name_ends_goes c cs s f)
  by_left (x ∷ xs) s f g =
      let k = both_sides (is_none (after_all is_white (x ∷ xs))) (not (has_text (read_part (c ∷ cs) (x ∷ xs)) barred)) g in
      (codes ">", name_white_goes c cs x xs s f k.0 (not_that (has_text (read_part (c ∷ cs) (x ∷ xs)) barred) k.1))

  by_first : (t : Bool) → starts_name c ≡ t → (more : List ℕ) × block_goes (c ∷ cs) more
  by_first true s = by_left (after_all in_name cs) s refl (sym (ap (block_or_none (c ∷ cs)) (name_some c cs s)) ∙ e)
  by_first false s =
      let none : after_name (c ∷ cs) ≡ None = rw s refl in
      let differs : true ≡ false = sym e ∙ ap (block_or_none (c ∷ cs)) none in
      let r : ⊥ = cc in
      absurd r

other_goes : (b : ℕ) (bs : List ℕ) → is_small b ≡ false → is_capital b ≡ false → slot_or_none (b ∷ bs) (after (codes ":") (b ∷ bs)) ≡ true → Goes (b ∷ bs)
other_goes b bs f g e = by_sign (eqb 58 b) refl where
  by_sign : (t : Bool) → eqb 58 b ≡ t → Goes (b ∷ bs)
  by_sign true t =
      let here : after (codes ":") (b ∷ bs) ≡ Some bs = rw t refl in
      let r = slot_name_goes bs (sym (ap (slot_or_none (b ∷ bs)) here) ∙ e) in
      slot_goes b bs r.0 f g t r.1
  by_sign false t =
      let here : after (codes ":") (b ∷ bs) ≡ None = rw t refl in
      let differs : true ≡ false = sym e ∙ ap (slot_or_none (b ∷ bs)) here in
      let r : ⊥ = cc in
      absurd r

name_goes : (name : List ℕ) → name_begun name ≡ true → Goes name
unfolding name_begun
name_goes [] e = no_name_goes
name_goes (b ∷ bs) e = by_first (is_small b) (is_capital b) refl refl where
  by_first : (s c : Bool) → is_small b ≡ s → is_capital b ≡ c → Goes (b ∷ bs)
  by_first true c f g = small_goes b bs f (sym (ap (tag_or_class (b ∷ bs)) (tag_read b bs f)) ∙ e)
  by_first false true f g = class_goes b bs g (sym (ap (tag_or_class (b ∷ bs)) (tag_none b bs f) ∙ ap (class_or_none (b ∷ bs)) (element_class b bs g)) ∙ e)
  by_first false false f g = other_goes b bs f g (sym (ap (tag_or_class (b ∷ bs)) (tag_none b bs f) ∙ ap (class_or_none (b ∷ bs)) (element_none b bs f g)) ∙ e)

whole_tag : after_end_tag (codes "</" ++ codes "a>") ≡ Some []
unfolding after_end_tag after_label after_element_name
whole_tag = refl

pub end_tag_goes : (bs : List ℕ) → end_tag_begun bs ≡ true → (more : List ℕ) × (after_end_tag (bs ++ more) ≡ Some [])
unfolding end_tag_begun
end_tag_goes bs e = by_front (after (codes "</") bs) refl e where
  by_front : (o : Option (List ℕ)) → after (codes "</") bs ≡ o → name_or_front bs o ≡ true → (more : List ℕ) × (after_end_tag (bs ++ more) ≡ Some [])
  by_front None f g =
      let r = front_rest bs (codes "</") g in
      (r.0 ++ codes "a>", ap after_end_tag (sym (append_assoc bs r.0 (codes "a>")) ∙ ap (λ l. l ++ codes "a>") (sym r.1)) ∙ whole_tag)
  by_front (Some name) f g =
      let more = name_goes name g in
      (more.0, end_tag_reads (bs ++ more.0) ∙ ap (λ o. o >>= λ l. (after_label l >>= ending)) (after_more (codes "</") bs more.0 name f) ∙ more.1)
