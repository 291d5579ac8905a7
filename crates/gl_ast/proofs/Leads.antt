-- How tokens begin, and which is the longer of two that begin alike.
use Rattle.std.proofs.Common.{◌≡◌, ◌≤◌, ◌<◌, ℕ, List, [], ◌∷◌, ◌++◌, Bool, true, false, ◌⊎◌, inl, inr, cond, eqb, ltb, Option, Some, None, length, length-append, refl, sym, ap, ◌∙◌, append_assoc, arith}
use Rattle.std.specs.Prelude.{codes}
use Rattle.std.proofs.lemmas.Bool.Decides.{nat_tests}
use Rattle.gl_base.specs.Answers.{◌>>=◌}
use Rattle.gl_base.specs.Names.{or_else}
use Rattle.gl_ast.specs.Marks.{is_white, in_name, in_attribute}
use Rattle.gl_ast.specs.Scans.{after, begins, after_all, from_first}
use Rattle.gl_ast.specs.Words.{after_space, after_long_end, shows_long_end, after_long_comment, after_short_comment, after_opening, after_tilde, after_attribute, after_argument, after_names, after_parameters, after_head, after_segment, after_path}
use Rattle.gl_ast.specs.Modes.{Found, found}
use Rattle.gl_ast.specs.declared.mode.Mode.{Mode}
use Rattle.gl_ast.specs.declared.token.TokenKind.{TokenKind}
use Rattle.gl_ast.proofs.Forward.{Leaves, Steps, piece_end, bind_some, if_some, scans_after}
use Rattle.gl_ast.proofs.Progress.{space_moves, names_scans}
use Rattle.gl_ast.proofs.Longest.{Longer, found_left, after_is_front}

-- the first place at which a test holds is no later than any other
first_early : (p : List ℕ → Bool) (front s e : List ℕ) → p s ≡ true → from_first p (front ++ s) ≡ Some e → 0 < length s → length s ≤ length e
first_early p [] [] e is at some = absurd (omega arith)
first_early p [] (b ∷ s) e is at some = let same : b ∷ s ≡ e = (let h = rw is at at in cc) in omega (arith, ap length same)
first_early p (c ∷ front) s e is at some = early_case p c front s e (p (c ∷ (front ++ s))) is at (first_early p front s e is) some
  where
    early_case : (p : List ℕ → Bool) (c : ℕ) (front s e : List ℕ) (t : Bool) → p s ≡ true → cond t (Some (c ∷ (front ++ s))) (from_first p (front ++ s)) ≡ Some e → (from_first p (front ++ s) ≡ Some e → 0 < length s → length s ≤ length e) → 0 < length s → length s ≤ length e
    early_case p c front s e true is at more some = let same : c ∷ (front ++ s) ≡ e = cc in omega (arith, ap length same, length-append front s)
    early_case p c front s e false is at more some = more at some

-- a comment begins with the opening of a mustache, and then `!`
pub or_front : (cs ds bs rest : List ℕ) → or_else (after cs bs) (after ds bs) ≡ Some rest → (bs ≡ cs ++ rest) ⊎ (bs ≡ ds ++ rest)
or_front cs ds bs rest e = front_case cs ds bs rest (after cs bs) refl e
  where
    front_case : (cs ds bs rest : List ℕ) (o : Option (List ℕ)) → after cs bs ≡ o → or_else o (after ds bs) ≡ Some rest → (bs ≡ cs ++ rest) ⊎ (bs ≡ ds ++ rest)
    front_case cs ds bs rest None h e = inr (after_is_front ds bs rest e)
    front_case cs ds bs rest (Some x) h e = let same : x ≡ rest = cc in inl (after_is_front cs bs rest (h ∙ ap Some same))

pub long_opens : (bs rest : List ℕ) → after_long_comment bs ≡ Some rest → (inner : List ℕ) × (after_opening bs ≡ Some (33 ∷ (45 ∷ (45 ∷ inner)))) × ((from_first shows_long_end inner >>= after_long_end) ≡ Some rest)
unfolding after_long_comment after_opening
long_opens bs rest e =
    let b = bind_some (or_else (after (codes "{{!--") bs) (after (codes "{{~!--") bs) >>= from_first shows_long_end) after_long_end rest e in
    let c = bind_some (or_else (after (codes "{{!--") bs) (after (codes "{{~!--") bs)) (from_first shows_long_end) b.0 b.1 in
    let open_is : (after (codes "{{") bs >>= after_tilde) ≡ Some (33 ∷ (45 ∷ (45 ∷ c.0))) =
    elim (or_front (codes "{{!--") (codes "{{~!--") bs c.0 c.1) [ inl h ↦ ap (λ l. after (codes "{{") l >>= after_tilde) h | inr h ↦ ap (λ l. after (codes "{{") l >>= after_tilde) h ] in
    (c.0, open_is, ap (λ o. o >>= after_long_end) c.2 ∙ b.2)

pub short_opens : (bs rest : List ℕ) → after_short_comment bs ≡ Some rest → (inner : List ℕ) × (after_opening bs ≡ Some (33 ∷ inner)) × ((from_first (begins (codes "}}")) inner >>= after (codes "}}")) ≡ Some rest)
unfolding after_short_comment after_opening
short_opens bs rest e =
    let b = bind_some (or_else (after (codes "{{!") bs) (after (codes "{{~!") bs) >>= from_first (begins (codes "}}"))) (after (codes "}}")) rest e in
    let c = bind_some (or_else (after (codes "{{!") bs) (after (codes "{{~!") bs)) (from_first (begins (codes "}}"))) b.0 b.1 in
    let open_is : (after (codes "{{") bs >>= after_tilde) ≡ Some (33 ∷ c.0) =
    elim (or_front (codes "{{!") (codes "{{~!") bs c.0 c.1) [ inl h ↦ ap (λ l. after (codes "{{") l >>= after_tilde) h | inr h ↦ ap (λ l. after (codes "{{") l >>= after_tilde) h ] in
    (c.0, open_is, ap (λ o. o >>= after (codes "}}")) c.2 ∙ b.2)

-- lengths
le_cases : (m n : ℕ) → m ≤ n → (m ≡ n) ⊎ (m < n)
le_cases m n h = less_case m n h (ltb m n) refl
  where
    less_case : (m n : ℕ) → m ≤ n → (t : Bool) → ltb m n ≡ t → (m ≡ n) ⊎ (m < n)
    less_case m n h true e = inr (grind (arith, nat_tests))
    less_case m n h false e = inl (grind (arith, nat_tests))

same_end : (f r g s : List ℕ) → f ++ r ≡ g ++ s → length r ≡ length s → r ≡ s
same_end [] r [] s e h = e
same_end [] r (c ∷ g) s e h = absurd (omega (arith, ap length e, length-append g s))
same_end (b ∷ f) r [] s e h = absurd (omega (arith, ap length e, length-append f r))
same_end (b ∷ f) r (c ∷ g) s e h = let tail : f ++ r ≡ g ++ s = cc in same_end f r g s tail h

first_end : (p : List ℕ → Bool) (bs e : List ℕ) → from_first p bs ≡ Some e → (front : List ℕ) × (bs ≡ front ++ e)
first_end p [] e is = cc
first_end p (b ∷ bs) e is = end_case p b bs e (p (b ∷ bs)) (first_end p bs e) is
  where
    end_case : (p : List ℕ → Bool) (b : ℕ) (bs e : List ℕ) (t : Bool) → (from_first p bs ≡ Some e → (front : List ℕ) × (bs ≡ front ++ e)) → cond t (Some (b ∷ bs)) (from_first p bs) ≡ Some e → (front : List ℕ) × (b ∷ bs ≡ front ++ e)
    end_case p b bs e true more is = ([], cc)
    end_case p b bs e false more is = let m = more is in (b ∷ m.0, ap (λ l. b ∷ l) m.1)

leaves_length : (bs rest : List ℕ) → Leaves bs rest → length rest ≤ length bs
leaves_length bs rest l = omega (arith, ap length l.1, length-append l.0 rest)

steps_length : (bs rest : List ℕ) → Steps bs rest → length rest < length bs
steps_length bs rest s = omega (arith, ap length s.2, length-append s.1 rest)

-- what was found, by what it left
found_is : (kind : TokenKind) (next : Mode) (o : Option (List ℕ)) (f : Found) → found kind next o ≡ Some f → f ≡ (kind, f.1, next)
found_is kind next None f e = cc
found_is kind next (Some x) f e = cc

same_found : (kind : TokenKind) (next : Mode) (o p : Option (List ℕ)) (f g : Found) → found kind next o ≡ Some f → found kind next p ≡ Some g → f.1 ≡ g.1 → g ≡ f
same_found kind next o p f g e h same = found_is kind next p g h ∙ ap (λ (l : List ℕ). (kind, l, next)) (sym same) ∙ sym (found_is kind next o f e)

-- the two braces that end a long comment
long_braces : (e r : List ℕ) → after_long_end e ≡ Some r → (front : List ℕ) × (e ≡ front ++ (125 ∷ (125 ∷ r)))
long_braces e r is = elim (or_front (codes "--}}") (codes "--~}}") e r is) [ inl h ↦ (45 ∷ (45 ∷ []), h) | inr h ↦ (45 ∷ (45 ∷ (126 ∷ [])), h) ]

-- the long form of a comment reaches at least as far as the short one
long_length : (bs r s : List ℕ) → after_long_comment bs ≡ Some r → after_short_comment bs ≡ Some s → (r ≡ s) ⊎ (length r < length s)
long_length bs r s e h =
    let l = long_opens bs r e in
    let t = short_opens bs s h in
    let inner : t.0 ≡ 45 ∷ (45 ∷ l.0) = cc (l.1, t.1) in
    let a = bind_some (from_first shows_long_end l.0) after_long_end r l.2 in
    let b = bind_some (from_first (begins (codes "}}")) t.0) (after (codes "}}")) s t.2 in
    let c = first_end shows_long_end l.0 a.0 a.1 in
    let d = long_braces a.0 r a.2 in
    let whole : t.0 ≡ (45 ∷ (45 ∷ (c.0 ++ d.0))) ++ (125 ∷ (125 ∷ r)) =
    inner ∙ ap (λ x. 45 ∷ (45 ∷ x)) (c.1 ∙ ap (λ x. c.0 ++ x) d.1 ∙ sym (append_assoc c.0 d.0 (125 ∷ (125 ∷ r)))) in
    let found_end : from_first (begins (codes "}}")) ((45 ∷ (45 ∷ (c.0 ++ d.0))) ++ (125 ∷ (125 ∷ r))) ≡ Some b.0 = ap (λ x. from_first (begins (codes "}}")) x) (sym whole) ∙ b.1 in
    let some : 0 < length (125 ∷ (125 ∷ r)) = omega arith in
    let early = first_early (begins (codes "}}")) (45 ∷ (45 ∷ (c.0 ++ d.0))) (125 ∷ (125 ∷ r)) b.0 refl found_end some in
    let short_end = after_is_front (codes "}}") b.0 s b.2 in
    let le : length r ≤ length s = omega (arith, early, ap length short_end) in
    let g = first_end (begins (codes "}}")) t.0 b.0 b.1 in
    elim (le_cases (length r) (length s) le) [
      | inl same ↦
          let both_ends : (45 ∷ (45 ∷ (c.0 ++ d.0))) ++ (125 ∷ (125 ∷ r)) ≡ g.0 ++ (125 ∷ (125 ∷ s)) = sym whole ∙ g.1 ∙ ap (λ x. g.0 ++ x) short_end in
          let n : length (125 ∷ (125 ∷ r)) ≡ length (125 ∷ (125 ∷ s)) = omega (arith, same) in
          let ends : 125 ∷ (125 ∷ r) ≡ 125 ∷ (125 ∷ s) = same_end (45 ∷ (45 ∷ (c.0 ++ d.0))) (125 ∷ (125 ∷ r)) g.0 (125 ∷ (125 ∷ s)) both_ends n in
          inl (cc)
      | inr less ↦ inr less
    ]

pub long_short : (kind : TokenKind) (next : Mode) (bs : List ℕ) → Longer (found kind next (after_long_comment bs)) (found kind next (after_short_comment bs))
long_short kind next bs f g e h =
    elim (long_length bs f.1 g.1 (found_left kind next (after_long_comment bs) f e) (found_left kind next (after_short_comment bs) g h)) [
      | inl same ↦ inl (same_found kind next (after_long_comment bs) (after_short_comment bs) f g e h same)
      | inr less ↦ inr less
    ]

first_length : (p : List ℕ → Bool) (bs e : List ℕ) → from_first p bs ≡ Some e → length e ≤ length bs
first_length p bs e is = let m = first_end p bs e is in omega (arith, ap length m.1, length-append m.0 e)

-- a comment is longer than the opening of a mustache
pub long_opening : (k l : TokenKind) (m n : Mode) (bs : List ℕ) → Longer (found k m (after_long_comment bs)) (found l n (after_opening bs))
long_opening k l m n bs f g e h =
    let c = long_opens bs f.1 (found_left k m (after_long_comment bs) f e) in
    let open_is = found_left l n (after_opening bs) g h in
    let rest : g.1 ≡ 33 ∷ (45 ∷ (45 ∷ c.0)) = cc (c.1, open_is) in
    let a = bind_some (from_first shows_long_end c.0) after_long_end f.1 c.2 in
    let b = long_braces a.0 f.1 a.2 in
    inr (omega (arith, ap length rest, first_length shows_long_end c.0 a.0 a.1, ap length b.1, length-append b.0 (125 ∷ (125 ∷ f.1))))

pub short_opening : (k l : TokenKind) (m n : Mode) (bs : List ℕ) → Longer (found k m (after_short_comment bs)) (found l n (after_opening bs))
short_opening k l m n bs f g e h =
    let c = short_opens bs f.1 (found_left k m (after_short_comment bs) f e) in
    let open_is = found_left l n (after_opening bs) g h in
    let rest : g.1 ≡ 33 ∷ c.0 = cc (c.1, open_is) in
    let a = bind_some (from_first (begins (codes "}}")) c.0) (after (codes "}}")) f.1 c.2 in
    let b = after_is_front (codes "}}") a.0 f.1 a.2 in
    inr (omega (arith, ap length rest, first_length (begins (codes "}}")) c.0 a.0 a.1, ap length b))

-- the opening of a block is longer than that of a mustache, and no comment begins like it
pub mark_opening : (c : ℕ) (k l : TokenKind) (m n : Mode) (bs : List ℕ) → Longer (found k m (after_opening bs >>= after (c ∷ []))) (found l n (after_opening bs))
mark_opening c k l m n bs f g e h =
    let a = bind_some (after_opening bs) (after (c ∷ [])) f.1 (found_left k m (after_opening bs >>= after (c ∷ [])) f e) in
    let b = after_is_front (c ∷ []) a.0 f.1 a.2 in
    let open_is = found_left l n (after_opening bs) g h in
    let rest : g.1 ≡ c ∷ f.1 = cc (open_is, a.1, b) in
    inr (omega (arith, ap length rest))

pub long_mark : (c : ℕ) → eqb 33 c ≡ false → (k l : TokenKind) (m n : Mode) (bs : List ℕ) → Longer (found k m (after_long_comment bs)) (found l n (after_opening bs >>= after (c ∷ [])))
long_mark c other k l m n bs f g e h =
    let x = long_opens bs f.1 (found_left k m (after_long_comment bs) f e) in
    let a = bind_some (after_opening bs) (after (c ∷ [])) g.1 (found_left l n (after_opening bs >>= after (c ∷ [])) g h) in
    let b = after_is_front (c ∷ []) a.0 g.1 a.2 in
    let same : 33 ≡ c = cc (x.1, a.1, b) in
    absurd (grind (arith, nat_tests))

pub short_mark : (c : ℕ) → eqb 33 c ≡ false → (k l : TokenKind) (m n : Mode) (bs : List ℕ) → Longer (found k m (after_short_comment bs)) (found l n (after_opening bs >>= after (c ∷ [])))
short_mark c other k l m n bs f g e h =
    let x = short_opens bs f.1 (found_left k m (after_short_comment bs) f e) in
    let a = bind_some (after_opening bs) (after (c ∷ [])) g.1 (found_left l n (after_opening bs >>= after (c ∷ [])) g h) in
    let b = after_is_front (c ∷ []) a.0 g.1 a.2 in
    let same : 33 ≡ c = cc (x.1, a.1, b) in
    absurd (grind (arith, nat_tests))

pub mark_mark : (c d : ℕ) → eqb c d ≡ false → (k l : TokenKind) (m n : Mode) (bs : List ℕ) → Longer (found k m (after_opening bs >>= after (c ∷ []))) (found l n (after_opening bs >>= after (d ∷ [])))
mark_mark c d other k l m n bs f g e h =
    let a = bind_some (after_opening bs) (after (c ∷ [])) f.1 (found_left k m (after_opening bs >>= after (c ∷ [])) f e) in
    let b = bind_some (after_opening bs) (after (d ∷ [])) g.1 (found_left l n (after_opening bs >>= after (d ∷ [])) g h) in
    let x = after_is_front (c ∷ []) a.0 f.1 a.2 in
    let y = after_is_front (d ∷ []) b.0 g.1 b.2 in
    let same : c ≡ d = cc (a.1, b.1, x, y) in
    absurd (grind (arith, nat_tests))

-- parameters begin with `as` and white space
space_head : (bs rest : List ℕ) → after_space bs ≡ Some rest → (w : ℕ) × (more : List ℕ) × (bs ≡ w ∷ more) × (is_white w ≡ true)
space_head [] rest e = cc
space_head (b ∷ bs) rest e = (b, bs, refl, (if_some (is_white b) (Some (after_all is_white bs)) rest e).0)

pub parameters_open : (bs rest : List ℕ) → after_parameters bs ≡ Some rest → (w : ℕ) × (more : List ℕ) × (bs ≡ 97 ∷ (115 ∷ (w ∷ more))) × (is_white w ≡ true) × (length rest < length (w ∷ more))
unfolding after_parameters
parameters_open bs rest e =
    let a = bind_some (after (codes "as") bs >>= after_space >>= after (codes "|") >>= after_names) (after (codes "|")) rest e in
    let b = bind_some (after (codes "as") bs >>= after_space >>= after (codes "|")) after_names a.0 a.1 in
    let c = bind_some (after (codes "as") bs >>= after_space) (after (codes "|")) b.0 b.1 in
    let d = bind_some (after (codes "as") bs) after_space c.0 c.1 in
    let front = after_is_front (codes "as") bs d.0 d.1 in
    let head = space_head d.0 c.0 d.2 in
    let n1 = steps_length d.0 c.0 (space_moves d.0 c.0 d.2) in
    let n2 = leaves_length c.0 b.0 (scans_after (codes "|") refl c.0 b.0 c.2) in
    let n3 = leaves_length b.0 a.0 (names_scans b.0 a.0 b.2) in
    let n4 = leaves_length a.0 rest (scans_after (codes "|") refl a.0 rest a.2) in
    (head.0, head.1, front ∙ ap (λ l. 97 ∷ (115 ∷ l)) head.2, head.3, omega (arith, n1, n2, n3, n4, ap length head.2))

white_ends_attribute : (w : ℕ) → is_white w ≡ true → in_attribute w ≡ false
white_ends_attribute w e = grind (arith, nat_tests)

white_ends_name : (w : ℕ) → is_white w ≡ true → in_name w ≡ false
white_ends_name w e = grind (arith, nat_tests)

white_no_dot : (w : ℕ) → is_white w ≡ true → eqb 46 w ≡ false
white_no_dot w e = grind (arith, nat_tests)

-- and are longer than the attribute or the path `as`
pub parameters_attribute : (k l : TokenKind) (m n : Mode) (bs : List ℕ) → Longer (found k m (after_parameters bs)) (found l n (after_attribute bs))
parameters_attribute k l m n bs f g e h =
    let p = parameters_open bs f.1 (found_left k m (after_parameters bs) f e) in
    let stop = white_ends_attribute p.0 p.3 in
    let word : after_all in_attribute (p.0 ∷ p.1) ≡ p.0 ∷ p.1 = rw stop refl in
    let is : after_attribute bs ≡ Some (p.0 ∷ p.1) = ap after_attribute p.2 ∙ ap Some word in
    let rest : g.1 ≡ p.0 ∷ p.1 = let x = found_left l n (after_attribute bs) g h in cc (is, x) in
    inr (omega (arith, p.4, ap length rest))

segment_none : (w : ℕ) (more : List ℕ) → is_white w ≡ true → after_segment (w ∷ more) ≡ None
unfolding after_segment
segment_none w more e = rw (white_no_dot w e) refl

path_as : (w : ℕ) (more : List ℕ) → is_white w ≡ true → after_path (97 ∷ (115 ∷ (w ∷ more))) ≡ Some (w ∷ more)
unfolding after_path after_head after_argument
path_as w more e = rw (white_ends_name w e) (ap Some (piece_end after_segment (w ∷ more) (segment_none w more e)))

pub parameters_path : (k l : TokenKind) (m n : Mode) (bs : List ℕ) → Longer (found k m (after_parameters bs)) (found l n (after_path bs))
parameters_path k l m n bs f g e h =
    let p = parameters_open bs f.1 (found_left k m (after_parameters bs) f e) in
    let is : after_path bs ≡ Some (p.0 ∷ p.1) = ap after_path p.2 ∙ path_as p.0 p.1 p.3 in
    let rest : g.1 ≡ p.0 ∷ p.1 = let x = found_left l n (after_path bs) g h in cc (is, x) in
    inr (omega (arith, p.4, ap length rest))
