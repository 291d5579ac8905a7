-- What a scan has read: the form of the bytes before those that are left.
use Rattle.std.proofs.Common.{◌≡◌, ◌≤◌, ◌⊎◌, inl, inr, ℕ, zero, suc, List, [], ◌∷◌, ◌++◌, Bool, true, false, Option, Some, None, cond, eqb, length, refl, sym, ap, ◌∙◌, append_assoc, length-append, arith}
use Rattle.std.specs.Prelude.{◌==◌, ◌&&◌, ◌||◌, not, codes, nat_le, unwrap_or, is_some}
use Rattle.std.specs.List.{list_all, flat_map}
use Rattle.std.proofs.lemmas.Bool.Decides.{nat_tests}
use Rattle.gl_base.specs.Answers.{◌>>=◌}
use Rattle.gl_base.specs.Names.{or_else, has_text}
use Rattle.gl_ast.specs.Canon.{segments_text}
use Rattle.gl_ast.specs.Marks.{is_white, is_capital, is_small, is_digit, starts_name, in_name, in_class, in_tag}
use Rattle.gl_ast.specs.Scans.{after, begins, after_all, after_word, from_first, after_pieces, after_closing}
use Rattle.gl_ast.specs.TokenText.{is_free, is_block_name}
use Rattle.gl_ast.specs.Words.{read_part, reserved, if_free, after_white, after_space, after_name, after_free_name, after_class_part, after_more_class, after_parts, after_class, after_tag, after_element_name, after_slot_name, after_block_name, after_label, after_tag_opening, after_html_comment, after_argument, after_spaced_name, after_more_names, after_names, after_parameters, after_digits, after_head, after_member, after_segment, after_segments, after_path, number_from, greatest, fits, goes_on, if_number, after_natural, after_number, after_string}
use Rattle.gl_ast.proofs.BlockNames.{block_read}
use Rattle.gl_ast.proofs.Forward.{Moves, both, bind_some, if_some, same_byte, piece_step, piece_end}
use Rattle.gl_ast.proofs.Longest.{after_is_front}
use Rattle.gl_ast.proofs.Progress.{segment_moves, more_class_moves, spaced_name_moves}
use Rattle.gl_show.specs.Spellable.{is_word, is_name, is_segment, is_class_part, IsClassName, IsFreeName, ends_comment}
use Rattle.gl_show.specs.Marking.{last_is}
use Rattle.gl_show.proofs.ContentTokens.{class_rest}
use Rattle.gl_show.proofs.Numbers.{IsNumber, part_read}

-- the bytes are a front of this form, and what is left
abbrev pub Shaped : (List ℕ → Type 0) → List ℕ → List ℕ → Type 0
Shaped Form bs rest = (w : List ℕ) × (bs ≡ w ++ rest) × Form w

pub all_shape : (p : ℕ → Bool) (bs : List ℕ) → Shaped (λ w. list_all p w ≡ true) bs (after_all p bs)
all_shape p [] = ([], refl, refl)
all_shape p (b ∷ bs) = test_case (p b) refl (all_shape p bs)
  where
    test_case : (t : Bool) → p b ≡ t → Shaped (λ w. list_all p w ≡ true) bs (after_all p bs) → Shaped (λ w. list_all p w ≡ true) (b ∷ bs) (cond t (after_all p bs) (b ∷ bs))
    test_case true e s = (b ∷ s.0, ap (λ l. b ∷ l) s.1, rw e s.2)
    test_case false e s = ([], refl, refl)

pub word_shape : (first more : ℕ → Bool) (bs rest : List ℕ) → after_word first more bs ≡ Some rest → Shaped (λ w. is_word first more w ≡ true) bs rest
word_shape first more [] rest e = cc
word_shape first more (b ∷ bs) rest e =
    let h = if_some (first b) (Some (after_all more bs)) rest e in
    let s = all_shape more bs in
    let same : after_all more bs ≡ rest = (let k = h.1 in cc) in
    let f : first b ≡ true = h.0 in
    (b ∷ s.0, ap (λ l. b ∷ l) (s.1 ∙ ap (λ l. s.0 ++ l) same), rw f s.2)

either : (o p : Option (List ℕ)) (rest : List ℕ) → or_else o p ≡ Some rest → (o ≡ Some rest) ⊎ (p ≡ Some rest)
either None p rest e = inr e
either (Some x) p rest e = inl e

or_true_left : (x y : Bool) → x ≡ true → (x || y) ≡ true
or_true_left x y e = rw e refl

or_true_right : (x y : Bool) → y ≡ true → (x || y) ≡ true
or_true_right true y e = refl
or_true_right false y e = e

member_shape : (bs rest : List ℕ) → after_member bs ≡ Some rest → Shaped (λ w. is_segment w ≡ true) bs rest
member_shape bs rest e = elim (either (after_name bs) (after_digits bs) rest e) [
  | inl h ↦ let s = word_shape starts_name in_name bs rest h in (s.0, s.1, or_true_left (is_name s.0) (is_word is_digit is_digit s.0) s.2)
  | inr h ↦ let s = word_shape is_digit is_digit bs rest h in (s.0, s.1, or_true_right (is_name s.0) (is_word is_digit is_digit s.0) s.2)
]

segment_shape : (bs rest : List ℕ) → after_segment bs ≡ Some rest → (s : List ℕ) × (bs ≡ 46 ∷ (s ++ rest)) × (is_segment s ≡ true)
unfolding after_segment
segment_shape bs rest e =
    let b = bind_some (after (codes ".") bs) after_member rest e in
    let f = after_is_front (codes ".") bs b.0 b.1 in
    let s = member_shape b.0 rest b.2 in
    (s.0, f ∙ ap (λ l. 46 ∷ l) s.1, s.2)

-- pieces one after another, each after a mark
abbrev pub PieceShape : (List ℕ → Option (List ℕ)) → (List ℕ → List ℕ) → (List ℕ → Type 0) → Type 0
PieceShape piece written Form = (bs rest : List ℕ) → piece bs ≡ Some rest → (s : List ℕ) × (bs ≡ written s ++ rest) × Form s

abbrev pub AllForm : (List ℕ → Type 0) → List (List ℕ) → Type 0
AllForm Form [] = Unit {0}
AllForm Form (s ∷ ss) = Form s × AllForm Form ss

pieces_within : (piece : List ℕ → Option (List ℕ)) (written : List ℕ → List ℕ) (Form : List ℕ → Type 0) → Moves piece → PieceShape piece written Form → (n : ℕ) (bs : List ℕ) → length bs ≤ n
    → (ss : List (List ℕ)) × (bs ≡ flat_map written ss ++ after_pieces piece 0 bs) × AllForm Form ss
pieces_within piece written Form moves shape zero [] h = ([], refl, tt)
pieces_within piece written Form moves shape zero (b ∷ bs) h = absurd (omega arith)
pieces_within piece written Form moves shape (suc n) bs h = piece_case (piece bs) refl (λ rest k. pieces_within piece written Form moves shape n rest k)
  where
    piece_case : (o : Option (List ℕ)) → piece bs ≡ o → ((rest : List ℕ) → length rest ≤ n → (ss : List (List ℕ)) × (rest ≡ flat_map written ss ++ after_pieces piece 0 rest) × AllForm Form ss)
        → (ss : List (List ℕ)) × (bs ≡ flat_map written ss ++ after_pieces piece 0 bs) × AllForm Form ss
    piece_case None e again = ([], sym (piece_end piece bs e), tt)
    piece_case (Some rest) e again =
        let s = shape bs rest e in
        let st = moves bs rest e in
        let short : length rest ≤ n = omega (arith, ap length st.2, length-append st.1 rest) in
        let more = again rest short in (
          s.0 ∷ more.0,
          s.1 ∙ ap (λ l. written s.0 ++ l) (more.1 ∙ ap (λ l. flat_map written more.0 ++ l) (sym (piece_step piece bs rest e st))) ∙ sym (append_assoc (written s.0) (flat_map written more.0) (after_pieces piece 0 bs)),
          (s.2, more.2),
        )

pub pieces_shape : (piece : List ℕ → Option (List ℕ)) (written : List ℕ → List ℕ) (Form : List ℕ → Type 0) → Moves piece → PieceShape piece written Form → (bs : List ℕ)
    → (ss : List (List ℕ)) × (bs ≡ flat_map written ss ++ after_pieces piece 0 bs) × AllForm Form ss
pieces_shape piece written Form moves shape bs = let h : length bs ≤ length bs = omega arith in pieces_within piece written Form moves shape (length bs) bs h

all_tests : (p : List ℕ → Bool) (ss : List (List ℕ)) → AllForm (λ s. p s ≡ true) ss → list_all p ss ≡ true
all_tests p [] a = refl
all_tests p (s ∷ ss) a = let h : p s ≡ true = a.0 in rw h (all_tests p ss a.1)

-- the head of a path is a name, or `@` and a name
abbrev pub IsHead : List ℕ → Type 0
IsHead h = (is_name h ≡ true) ⊎ ((m : List ℕ) × (h ≡ 64 ∷ m) × (is_name m ≡ true))

abbrev pub IsPathText : List ℕ → Type 0
IsPathText x = (h : List ℕ) × (ns : List (List ℕ)) × (x ≡ h ++ segments_text ns) × IsHead h × (list_all is_segment ns ≡ true)

pub argument_shape : (bs rest : List ℕ) → after_argument bs ≡ Some rest → Shaped (λ w. (m : List ℕ) × (w ≡ 64 ∷ m) × (is_name m ≡ true)) bs rest
unfolding after_argument
argument_shape bs rest e =
    let b = bind_some (after (codes "@") bs) after_name rest e in
    let f = after_is_front (codes "@") bs b.0 b.1 in
    let s = word_shape starts_name in_name b.0 rest b.2 in
    (64 ∷ s.0, f ∙ ap (λ l. 64 ∷ l) s.1, (s.0, refl, s.2))

head_shape : (bs rest : List ℕ) → after_head bs ≡ Some rest → Shaped IsHead bs rest
unfolding after_head
head_shape bs rest e = elim (either (after_argument bs) (after_name bs) rest e) [
  | inl h ↦ let s = argument_shape bs rest h in (s.0, s.1, inr s.2)
  | inr h ↦ let s = word_shape starts_name in_name bs rest h in (s.0, s.1, inl s.2)
]

pub path_shape : (bs rest : List ℕ) → after_path bs ≡ Some rest → Shaped IsPathText bs rest
unfolding after_path
path_shape bs rest e =
    let b = bind_some (after_head bs) after_segments rest e in
    let h = head_shape bs b.0 b.1 in
    let p = pieces_shape after_segment (λ s. 46 ∷ s) (λ s. is_segment s ≡ true) segment_moves segment_shape b.0 in
    let same : after_pieces after_segment 0 b.0 ≡ rest = (let k = b.2 in cc) in (
      h.0 ++ segments_text p.0,
      h.1 ∙ ap (λ l. h.0 ++ l) (p.1 ∙ ap (λ l. segments_text p.0 ++ l) same) ∙ sym (append_assoc h.0 (segments_text p.0) rest),
      (h.0, p.0, refl, h.2, all_tests is_segment p.0 p.2),
    )

-- a name that is not reserved
start_no_at : (b : ℕ) → starts_name b ≡ true → eqb 64 b ≡ false
start_no_at b e = grind (arith, nat_tests)

free_is : (n : List ℕ) → is_name n ≡ true → has_text n reserved ≡ false → is_free n ≡ true
free_is [] w h = cc
free_is (c ∷ cs) w h = let k = start_no_at c (both (starts_name c) (list_all in_name cs) w).0 in ap (λ b. not (is_some (cond b (Some cs) None)) && not (has_text (c ∷ cs) reserved)) k ∙ ap (λ b. true && not b) h

pub free_shape : (bs rest : List ℕ) → after_free_name bs ≡ Some rest → Shaped IsFreeName bs rest
unfolding after_free_name
free_shape bs rest e =
    let b = bind_some (after_name bs) (if_free bs) rest e in
    let s = word_shape starts_name in_name bs b.0 b.1 in
    let t = test_case (has_text (read_part bs b.0) reserved) b.0 b.2 in
    let part : read_part bs b.0 ≡ s.0 = ap (λ l. read_part l b.0) s.1 ∙ part_read s.0 b.0 in
    (s.0, s.1 ∙ ap (λ l. s.0 ++ l) t.1, (s.2, free_is s.0 s.2 (ap (λ n. has_text n reserved) (sym part) ∙ t.0)))
  where
    test_case : (t : Bool) (x : List ℕ) → cond t None (Some x) ≡ Some rest → (t ≡ false) × (x ≡ rest)
    test_case true x e = cc
    test_case false x e = (refl, (let h = e in cc))

-- names of elements and classes
more_class_shape : (bs rest : List ℕ) → after_more_class bs ≡ Some rest → (s : List ℕ) × (bs ≡ (58 ∷ 58 ∷ s) ++ rest) × (is_class_part s ≡ true)
unfolding after_more_class
more_class_shape bs rest e =
    let b = bind_some (after (codes "::") bs) after_class_part rest e in
    let f = after_is_front (codes "::") bs b.0 b.1 in
    let s = word_shape is_capital in_class b.0 rest b.2 in
    (s.0, f ∙ ap (λ l. 58 ∷ 58 ∷ l) s.1, s.2)

abbrev pub IsElementName : List ℕ → Type 0
IsElementName n = (is_word is_small in_tag n ≡ true) ⊎ IsClassName n

element_name_shape : (bs rest : List ℕ) → after_element_name bs ≡ Some rest → Shaped IsElementName bs rest
unfolding after_element_name after_class
element_name_shape bs rest e = elim (either (after_tag bs) (after_class_part bs >>= after_parts) rest e) [
  | inl h ↦ let s = word_shape is_small in_tag bs rest h in (s.0, s.1, inl s.2)
  | inr h ↦
      let b = bind_some (after_class_part bs) after_parts rest h in
      let s = word_shape is_capital in_class bs b.0 b.1 in
      let p = pieces_shape after_more_class (λ q. 58 ∷ 58 ∷ q) (λ q. is_class_part q ≡ true) more_class_moves more_class_shape b.0 in
      let same : after_pieces after_more_class 0 b.0 ≡ rest = (let k = b.2 in cc) in (
        s.0 ++ class_rest p.0,
        s.1 ∙ ap (λ l. s.0 ++ l) (p.1 ∙ ap (λ l. class_rest p.0 ++ l) same) ∙ sym (append_assoc s.0 (class_rest p.0) rest),
        inr (s.0, p.0, s.2, all_tests is_class_part p.0 p.2, refl),
      )
]

-- the name of a block that is passed, after `:`
abbrev pub IsLabel : List ℕ → Type 0
IsLabel n = IsElementName n ⊎ ((m : List ℕ) × (n ≡ 58 ∷ m) × (is_block_name m ≡ true))

label_shape : (bs rest : List ℕ) → after_label bs ≡ Some rest → Shaped IsLabel bs rest
unfolding after_label after_slot_name
label_shape bs rest e = elim (either (after_element_name bs) (after (codes ":") bs >>= after_block_name) rest e) [
  | inl h ↦ let s = element_name_shape bs rest h in (s.0, s.1, inl s.2)
  | inr h ↦
      let b = bind_some (after (codes ":") bs) after_block_name rest h in
      let f = after_is_front (codes ":") bs b.0 b.1 in
      let s = block_read b.0 rest b.2 in
      (58 ∷ s.0, f ∙ ap (λ l. 58 ∷ l) s.1, inr (s.0, refl, s.2))
]

pub tag_opening_shape : (bs rest : List ℕ) → after_tag_opening bs ≡ Some rest → Shaped (λ w. (n : List ℕ) × (w ≡ 60 ∷ n) × IsLabel n) bs rest
unfolding after_tag_opening
tag_opening_shape bs rest e =
    let b = bind_some (after (codes "<") bs) after_label rest e in
    let f = after_is_front (codes "<") bs b.0 b.1 in
    let s = label_shape b.0 rest b.2 in
    (60 ∷ s.0, f ∙ ap (λ l. 60 ∷ l) s.1, (s.0, refl, s.2))

-- numbers
if_number_is : (bs x rest : List ℕ) → if_number bs x ≡ Some rest → (fits (read_part bs x) ≡ true) × (x ≡ rest)
if_number_is bs x rest e = test_case (goes_on x) (fits (read_part bs x)) e
  where
    test_case : (g f : Bool) → cond (g || not f) None (Some x) ≡ Some rest → (f ≡ true) × (x ≡ rest)
    test_case true f e = cc
    test_case false true e = (refl, (let h = e in cc))
    test_case false false e = cc

natural_shape : (bs rest : List ℕ) → after_natural bs ≡ Some rest → Shaped (λ w. (n : ℕ) × IsNumber n w × (nat_le n greatest ≡ true)) bs rest
unfolding after_natural fits
natural_shape bs rest e =
    let b = bind_some (after_digits bs) (if_number bs) rest e in
    let s = word_shape is_digit is_digit bs b.0 b.1 in
    let t = if_number_is bs b.0 rest b.2 in
    let part : read_part bs b.0 ≡ s.0 = ap (λ l. read_part l b.0) s.1 ∙ part_read s.0 b.0 in
    (s.0, s.1 ∙ ap (λ l. s.0 ++ l) t.1, (number_from 0 s.0, (s.2, refl), ap (λ l. nat_le (number_from 0 l) greatest) (sym part) ∙ t.0))

abbrev pub IsNumberText : List ℕ → Type 0
IsNumberText x = (n : ℕ) × (ds : List ℕ) × IsNumber n ds × (nat_le n greatest ≡ true) × ((x ≡ ds) ⊎ (x ≡ 45 ∷ ds))

pub number_shape : (bs rest : List ℕ) → after_number bs ≡ Some rest → Shaped IsNumberText bs rest
unfolding after_number
number_shape bs rest e = sign_case (after (codes "-") bs) refl e
  where
    sign_case : (o : Option (List ℕ)) → after (codes "-") bs ≡ o → after_natural (unwrap_or o bs) ≡ Some rest → Shaped IsNumberText bs rest
    sign_case None h g = let s = natural_shape bs rest g in (s.0, s.1, (s.2.0, s.0, s.2.1, s.2.2, inl refl))
    sign_case (Some x) h g =
        let f = after_is_front (codes "-") bs x h in
        let s = natural_shape x rest g in
        (45 ∷ s.0, f ∙ ap (λ l. 45 ∷ l) s.1, (s.2.0, s.0, s.2.1, s.2.2, inr refl))

-- strings: the closing quote does not stand after a `\`
closing_shape : (q : ℕ) (escaped : Bool) (bs rest : List ℕ) → after_closing q escaped bs ≡ Some rest → (body : List ℕ) × (bs ≡ body ++ q ∷ rest) × (last_is escaped body ≡ false)
closing_shape q escaped [] rest e = cc
closing_shape q escaped (b ∷ bs) rest e = close_case (b == q) escaped refl e (closing_shape q (b == 92) bs rest)
  where
    close_case : (t s : Bool) → (b == q) ≡ t → cond (t && not s) (Some bs) (after_closing q (b == 92) bs) ≡ Some rest
        → (after_closing q (b == 92) bs ≡ Some rest → (body : List ℕ) × (bs ≡ body ++ q ∷ rest) × (last_is (b == 92) body ≡ false))
        → (body : List ℕ) × (b ∷ bs ≡ body ++ q ∷ rest) × (last_is s body ≡ false)
    close_case true false h e more = let same = same_byte b q h in let left : bs ≡ rest = (let k = e in cc) in ([], cc, refl)
    close_case true true h e more = let m = more e in (b ∷ m.0, ap (λ l. b ∷ l) m.1, m.2)
    close_case false s h e more = let m = more e in (b ∷ m.0, ap (λ l. b ∷ l) m.1, m.2)

pub string_shape : (q : ℕ) (bs rest : List ℕ) → after_string q bs ≡ Some rest → Shaped (λ w. (body : List ℕ) × (w ≡ q ∷ (body ++ q ∷ [])) × (last_is false body ≡ false)) bs rest
unfolding after_string
string_shape q bs rest e =
    let b = bind_some (after (q ∷ []) bs) (after_closing q false) rest e in
    let f = after_is_front (q ∷ []) bs b.0 b.1 in
    let s = closing_shape q false b.0 rest b.2 in
    (q ∷ (s.0 ++ q ∷ []), f ∙ ap (λ l. q ∷ l) (s.1 ∙ sym (append_assoc s.0 (q ∷ []) rest)), (s.0, refl, s.2))

-- comments: no end stands within
begins_more : (cs bs rest : List ℕ) → begins cs bs ≡ true → begins cs (bs ++ rest) ≡ true
begins_more [] bs rest e = refl
begins_more (c ∷ cs) [] rest e = cc
begins_more (c ∷ cs) (b ∷ bs) rest e = more_case (eqb c b) e (λ k. begins_more cs bs rest k)
  where
    more_case : (t : Bool) → is_some (cond t (after cs bs) None) ≡ true → (begins cs bs ≡ true → begins cs (bs ++ rest) ≡ true) → is_some (cond t (after cs (bs ++ rest)) None) ≡ true
    more_case true e more = more e
    more_case false e more = cc

not_begins : (b : Bool) → (b ≡ true → ⊥) → b ≡ false
not_begins true h = absurd (h refl)
not_begins false h = refl

first_shape : (bs rest : List ℕ) → from_first (begins (codes "-->")) bs ≡ Some rest → Shaped (λ w. ends_comment w ≡ false) bs rest
first_shape [] rest e = cc
first_shape (b ∷ bs) rest e = found_case (begins (codes "-->") (b ∷ bs)) refl e (first_shape bs rest)
  where
    found_case : (t : Bool) → begins (codes "-->") (b ∷ bs) ≡ t → cond t (Some (b ∷ bs)) (from_first (begins (codes "-->")) bs) ≡ Some rest
        → (from_first (begins (codes "-->")) bs ≡ Some rest → Shaped (λ w. ends_comment w ≡ false) bs rest) → Shaped (λ w. ends_comment w ≡ false) (b ∷ bs) rest
    found_case true h e more = ([], (let k = e in cc), refl)
    found_case false h e more =
        let m = more e in
        let no : begins (codes "-->") (b ∷ m.0) ≡ false = not_begins (begins (codes "-->") (b ∷ m.0)) (λ y. let z = begins_more (codes "-->") (b ∷ m.0) rest y in let w : begins (codes "-->") (b ∷ bs) ≡ true = ap (λ l. begins (codes "-->") (b ∷ l)) m.1 ∙ z in cc) in
        (b ∷ m.0, ap (λ l. b ∷ l) m.1, ap (λ x. x || ends_comment m.0) no ∙ m.2)

pub comment_shape : (bs rest : List ℕ) → after_html_comment bs ≡ Some rest → Shaped (λ w. (body : List ℕ) × (w ≡ codes "<!--" ++ (body ++ codes "-->")) × (ends_comment body ≡ false)) bs rest
unfolding after_html_comment
comment_shape bs rest e =
    let a = bind_some (after (codes "<!--") bs >>= from_first (begins (codes "-->"))) (after (codes "-->")) rest e in
    let b = bind_some (after (codes "<!--") bs) (from_first (begins (codes "-->"))) a.0 a.1 in
    let f = after_is_front (codes "<!--") bs b.0 b.1 in
    let s = first_shape b.0 a.0 b.2 in
    let g = after_is_front (codes "-->") a.0 rest a.2 in
    (codes "<!--" ++ (s.0 ++ codes "-->"), f ∙ ap (λ l. codes "<!--" ++ l) (s.1 ∙ ap (λ l. s.0 ++ l) g ∙ sym (append_assoc s.0 (codes "-->") rest)), (s.0, refl, s.2))

-- parameters: names with white space before each, and after the last
abbrev pub IsSpacedName : List ℕ → Type 0
IsSpacedName s = (sp : List ℕ) × (n : List ℕ) × (s ≡ sp ++ n) × (is_word is_white is_white sp ≡ true) × IsFreeName n

spaced_shape : (bs rest : List ℕ) → after_spaced_name bs ≡ Some rest → (s : List ℕ) × (bs ≡ s ++ rest) × IsSpacedName s
unfolding after_spaced_name
spaced_shape bs rest e =
    let b = bind_some (after_space bs) after_free_name rest e in
    let s = word_shape is_white is_white bs b.0 b.1 in
    let n = free_shape b.0 rest b.2 in
    (s.0 ++ n.0, s.1 ∙ ap (λ l. s.0 ++ l) n.1 ∙ sym (append_assoc s.0 n.0 rest), (s.0, n.0, refl, s.2, n.2))

abbrev pub IsNamesText : List ℕ → Type 0
IsNamesText x = (front n : List ℕ) × (ss : List (List ℕ)) × (back : List ℕ) × (x ≡ front ++ (n ++ (flat_map (λ s. s) ss ++ back))) × (list_all is_white front ≡ true) × IsFreeName n × AllForm IsSpacedName ss × (list_all is_white back ≡ true)

-- a front, and then another
shape_more : (bs w mid x rest : List ℕ) → bs ≡ w ++ mid → mid ≡ x ++ rest → bs ≡ (w ++ x) ++ rest
shape_more bs w mid x rest e f = e ∙ ap (λ l. w ++ l) f ∙ sym (append_assoc w x rest)

shape_is : (bs w x rest : List ℕ) → bs ≡ w ++ x → x ≡ rest → bs ≡ w ++ rest
shape_is bs w x rest e f = e ∙ ap (λ l. w ++ l) f

some_is : (x rest : List ℕ) → Some x ≡ Some rest → x ≡ rest
some_is x rest e = cc

names_shape : (bs rest : List ℕ) → after_names bs ≡ Some rest → Shaped IsNamesText bs rest
unfolding after_names
names_shape bs rest e =
    let a = bind_some (after_white bs >>= after_free_name >>= after_more_names) after_white rest e in
    let b = bind_some (after_white bs >>= after_free_name) after_more_names a.0 a.1 in
    let c = bind_some (after_white bs) after_free_name b.0 b.1 in
    joined_names bs c.0 b.0 a.0 rest (all_shape is_white bs) (some_is (after_all is_white bs) c.0 c.1) (free_shape c.0 b.0 c.2)
    (pieces_shape after_spaced_name (λ s. s) IsSpacedName spaced_name_moves spaced_shape b.0) (some_is (after_pieces after_spaced_name 0 b.0) a.0 b.2)
    (all_shape is_white a.0) (some_is (after_all is_white a.0) rest a.2)
  where
    joined_names : (bs c b a rest : List ℕ) → Shaped (λ w. list_all is_white w ≡ true) bs (after_all is_white bs) → after_all is_white bs ≡ c → Shaped IsFreeName c b
        → ((ss : List (List ℕ)) × (b ≡ flat_map (λ s. s) ss ++ after_pieces after_spaced_name 0 b) × AllForm IsSpacedName ss) → after_pieces after_spaced_name 0 b ≡ a
        → Shaped (λ w. list_all is_white w ≡ true) a (after_all is_white a) → after_all is_white a ≡ rest → Shaped IsNamesText bs rest
    joined_names bs c b a rest w w_is n p p_is v v_is = (
      w.0 ++ (n.0 ++ (flat_map (λ s. s) p.0 ++ v.0)),
      shape_more bs w.0 c (n.0 ++ (flat_map (λ s. s) p.0 ++ v.0)) rest (shape_is bs w.0 (after_all is_white bs) c w.1 w_is)
          (shape_more c n.0 b (flat_map (λ s. s) p.0 ++ v.0) rest n.1
          (shape_more b (flat_map (λ s. s) p.0) a v.0 rest (shape_is b (flat_map (λ s. s) p.0) (after_pieces after_spaced_name 0 b) a p.1 p_is) (shape_is a v.0 (after_all is_white a) rest v.1 v_is))),
      (w.0, n.0, p.0, v.0, refl, w.2, n.2, p.2, v.2),
    )

parameters_is : (sp x : List ℕ) → is_word is_white is_white sp ≡ true → IsNamesText x
    → (s y : List ℕ) × (codes "as" ++ (sp ++ (124 ∷ (x ++ 124 ∷ []))) ≡ codes "as" ++ (s ++ (124 ∷ (y ++ 124 ∷ [])))) × (is_word is_white is_white s ≡ true) × IsNamesText y
parameters_is sp x w n = (sp, x, refl, w, n)

pub parameters_shape : (bs rest : List ℕ) → after_parameters bs ≡ Some rest → Shaped (λ w. (sp x : List ℕ) × (w ≡ codes "as" ++ (sp ++ (124 ∷ (x ++ 124 ∷ [])))) × (is_word is_white is_white sp ≡ true) × IsNamesText x) bs rest
unfolding after_parameters
parameters_shape bs rest e =
    let a = bind_some (after (codes "as") bs >>= after_space >>= after (codes "|") >>= after_names) (after (codes "|")) rest e in
    let b = bind_some (after (codes "as") bs >>= after_space >>= after (codes "|")) after_names a.0 a.1 in
    let c = bind_some (after (codes "as") bs >>= after_space) (after (codes "|")) b.0 b.1 in
    let d = bind_some (after (codes "as") bs) after_space c.0 c.1 in
    let s = word_shape is_white is_white d.0 c.0 d.2 in
    let n = names_shape b.0 a.0 b.2 in (
      codes "as" ++ (s.0 ++ (124 ∷ (n.0 ++ 124 ∷ []))),
      shape_more bs (codes "as") d.0 (s.0 ++ (124 ∷ (n.0 ++ 124 ∷ []))) rest (after_is_front (codes "as") bs d.0 d.1)
          (shape_more d.0 s.0 c.0 (124 ∷ (n.0 ++ 124 ∷ [])) rest s.1
          (shape_more c.0 (124 ∷ []) b.0 (n.0 ++ 124 ∷ []) rest (after_is_front (codes "|") c.0 b.0 c.2)
          (shape_more b.0 n.0 a.0 (124 ∷ []) rest n.1 (after_is_front (codes "|") a.0 rest a.2)))),
      parameters_is s.0 n.0 s.2 n.2,
    )
