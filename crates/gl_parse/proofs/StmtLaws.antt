-- Statements, bodies and blocks at every depth: what is read is spelled, and what is spelled is read.
use Rattle.std.proofs.Common.{◌≡◌, ◌<◌, ◌≤◌, ℕ, zero, suc, List, [], ◌∷◌, Bool, true, false, Some, ◌⊎◌, inl, inr, length, refl, sym, ap, subst, arith}
use Rattle.std.specs.Prelude.{codes}
use Rattle.gl_ast.specs.Grammar.{Mark, IsStmt, AreStmts, is_silent}
use Rattle.gl_ast.specs.Template.{Stmt, text_stmt, comment_stmt, put, element, component_stmt, if_stmt, each, let_stmt, yield, Body, end, stmt, Slots, no_slots, block, body_of}
use Rattle.gl_ast.specs.declared.token.Token.{Token}
use Rattle.gl_ast.specs.declared.token.TokenKind.{TokenKind}
use Rattle.gl_ast.specs.declared.token.TokenKind.TheVariants as k
use Rattle.gl_parse.specs.ReadStmt.{Reader, ends_body, is_end, stands_opened, read_stmts, read_body, read_slot, read_flat, read_nested, read_block_with, read_else, read_stmt, read_filling, read_chained}
use Rattle.gl_exprs.specs.Take.{same_kind, stands}
use Rattle.gl_parse.proofs.BlockLaws.{SoundHead, CompleteHead, head_is, else_is, reads_head, reads_else, block_is, reads_block, block_first, is_block}
use Rattle.gl_parse.proofs.Falls.{stmt_falls, body_falls, slot_falls}
use Rattle.gl_exprs.proofs.FirstTokens.{stands_mark}
use Rattle.gl_parse.proofs.FlatLaws.{IsRead, read_flat_is, reads_flat, is_flat, mustache_no_else, not_opened, opened_other}
use Rattle.gl_parse.proofs.SlotLaws.{Named, slot_is, slots_sound, slots_complete}
use Rattle.gl_parse.proofs.TagLaws.{Sound, Complete, SoundFilling, CompleteFilling, tag_is, reads_tag, tag_first, is_tag}
use Rattle.gl_exprs.proofs.Takings.{first_gave, under_gave, one_gave, some_is}

-- statements that are read are spelled
abbrev pub SoundStmt : ℕ → Reader Stmt → Type 0
SoundStmt depth one = (ts : List Token) (p : Stmt × List Token) → one ts ≡ Some p → IsRead depth ts p

-- statements that are spelled are read
abbrev pub CompleteStmt : ℕ → Reader Stmt → Type 0
CompleteStmt depth one = (ts : List Token) (s : Stmt) (us : List Token) → IsStmt depth ts s us → one ts ≡ Some (s, us)

-- statements before silent tokens
skip_silent : (depth : ℕ) (t : Token) (ts : List Token) (b : Body) (us : List Token) → is_silent t ≡ true → AreStmts depth ts b us → AreStmts depth (t ∷ ts) b us
skip_silent depth t ts end us e h = rw e h
skip_silent depth t ts (stmt s b) us e (vs, is, are) = (vs, rw e is, are)

unskip_silent : (depth : ℕ) (t : Token) (ts : List Token) (b : Body) (us : List Token) → is_silent t ≡ true → AreStmts depth (t ∷ ts) b us → AreStmts depth ts b us
unskip_silent depth t ts end us e h = rw e at h
unskip_silent depth t ts (stmt s b) us e (vs, is, are) = (vs, rw e at is, are)

read_stmts_are : (depth : ℕ) (one : Reader Stmt) → SoundStmt depth one → (n : ℕ) (ts : List Token) (p : List Stmt × List Token) → read_stmts one n ts ≡ Some p → AreStmts depth ts (body_of p.0) p.1
unfolding read_stmts
read_stmts_are depth one sound zero [] p e = let P : List Stmt × List Token → Type 0 = λ q. AreStmts depth [] (body_of q.0) q.1 in subst P (some_is _ _ e) refl
read_stmts_are depth one sound (suc n) [] p e = let P : List Stmt × List Token → Type 0 = λ q. AreStmts depth [] (body_of q.0) q.1 in subst P (some_is _ _ e) refl
read_stmts_are depth one sound zero (t ∷ ts) p e = let r : ⊥ = cc in absurd r
read_stmts_are depth one sound (suc n) (t ∷ ts) p e =
    let P : List Stmt × List Token → Type 0 = λ q. AreStmts depth (t ∷ ts) (body_of q.0) q.1 in
    elim (one_gave (is_silent t) _ _ p e) [
      | inl h ↦ skip_silent depth t ts (body_of p.0) p.1 h.0 (read_stmts_are depth one sound n ts p h.1)
      | inr f ↦ elim (one_gave (ends_body (t ∷ ts)) _ _ p f.1) [
        | inl h ↦ subst P (some_is _ _ h.1) (rw (f.0) refl)
        | inr g ↦ let s = first_gave (one (t ∷ ts)) _ p g.1 in
            let more = first_gave (read_stmts one n s.0.1) _ p s.2 in
            subst P (some_is _ _ more.2) (s.0.1, rw (f.0) (sound (t ∷ ts) s.0 s.1), read_stmts_are depth one sound n s.0.1 more.0 more.1)
      ]
    ]

pub bodies_sound : (depth : ℕ) (one : Reader Stmt) → SoundStmt depth one → Sound depth (read_body one)
unfolding read_body
bodies_sound depth one sound ts p e =
    let m = under_gave _ (read_stmts one (length ts) ts) p e in
    let P : Body × List Token → Type 0 = λ q. AreStmts depth ts q.0 q.1 in
    subst P m.2 (read_stmts_are depth one sound (length ts) ts m.0 m.1)

-- the statements of a body, as a list
abbrev stmts_of : Body → List Stmt
stmts_of end = []
stmts_of (stmt s b) = s ∷ stmts_of b

body_of-stmts : (b : Body) → body_of (stmts_of b) ≡ b
body_of-stmts end = refl
body_of-stmts (stmt s b) = ap (λ x. stmt s x) (body_of-stmts b)

no_end_mark : (kind : TokenKind) (ts us : List Token) → Mark kind ts us → same_kind kind k.EndTag ≡ false → same_kind kind k.OpenClosing ≡ false → stands_opened (codes "else") ts ≡ false → ends_body ts ≡ false
unfolding ends_body
no_end_mark kind ts us m e f g = rw (stands_mark kind k.EndTag ts us m, stands_mark kind k.OpenClosing ts us m, e, f, g) refl

no_end_other : (kind : TokenKind) (ts us : List Token) → Mark kind ts us → same_kind kind k.EndTag ≡ false → same_kind kind k.OpenClosing ≡ false → same_kind kind k.OpenMustache ≡ false → ends_body ts ≡ false
no_end_other kind ts us m e f g = no_end_mark kind ts us m e f (not_opened (codes "else") kind ts us m g)

-- the kind that a statement begins with
first_of_flat : (depth : ℕ) (ts : List Token) (s : Stmt) (us : List Token) → is_flat s ≡ true → IsStmt depth ts s us → (kind : TokenKind) × (vs : List Token) × Mark kind ts vs × (same_kind kind k.OpenBlock ≡ false) × (same_kind kind k.TagOpening ≡ false)
first_of_flat depth ts (text_stmt x) us f h = (k.Text, us, (h.0, h.1, h.2), refl, refl)
first_of_flat depth ts (comment_stmt x) us f h = (k.HtmlComment, us, (h.0, h.1, h.2), refl, refl)
first_of_flat depth ts (put e) us f h = (k.OpenMustache, h.0, h.2, refl, refl)
first_of_flat depth ts (yield es to) us f h = (k.OpenMustache, h.0, h.4, refl, refl)
first_of_flat depth ts s us f h = let r : ⊥ = cc in absurd r

-- a statement begins where no body ends
flat_no_end : (depth : ℕ) (ts : List Token) (s : Stmt) (us : List Token) → is_flat s ≡ true → IsStmt depth ts s us → ends_body ts ≡ false
flat_no_end depth ts (text_stmt x) us f h = no_end_other k.Text ts us (h.0, h.1, h.2) refl refl refl
flat_no_end depth ts (comment_stmt x) us f h = no_end_other k.HtmlComment ts us (h.0, h.1, h.2) refl refl refl
flat_no_end depth ts (put e) us f h = no_end_mark k.OpenMustache ts h.0 h.2 refl refl (mustache_no_else ts e us h)
flat_no_end depth ts (yield es to) us f h = no_end_mark k.OpenMustache ts h.0 h.4 refl refl (opened_other (codes "else") (codes "yield") ts h.0 h.1 h.4 h.5 refl)
flat_no_end depth ts s us f h = let r : ⊥ = cc in absurd r

no_end : (depth : ℕ) (ts : List Token) (s : Stmt) (us : List Token) → IsStmt depth ts s us → ends_body ts ≡ false
no_end depth ts (text_stmt x) us h = flat_no_end depth ts (text_stmt x) us refl h
no_end depth ts (comment_stmt x) us h = flat_no_end depth ts (comment_stmt x) us refl h
no_end depth ts (put e) us h = flat_no_end depth ts (put e) us refl h
no_end depth ts (yield es to) us h = flat_no_end depth ts (yield es to) us refl h
no_end (suc depth) ts (element tag ps b) us h = let m = tag_first depth ts (element tag ps b) us refl h in no_end_other k.TagOpening ts m.0 m.1 refl refl refl
no_end (suc depth) ts (component_stmt c ps given ss) us h = let m = tag_first depth ts (component_stmt c ps given ss) us refl h in no_end_other k.TagOpening ts m.0 m.1 refl refl refl
no_end (suc depth) ts (if_stmt e unless b c) us h = no_end_other k.OpenBlock ts h.0 h.2 refl refl refl
no_end (suc depth) ts (each e key ns b c) us h = no_end_other k.OpenBlock ts h.0 h.2 refl refl refl
no_end (suc depth) ts (let_stmt es ns b) us h = no_end_other k.OpenBlock ts h.0 h.2 refl refl refl
no_end zero ts s us h = absurd h

-- no statement stands where nothing is left
nothing_left : (depth : ℕ) (s : Stmt) (us : List Token) → IsStmt depth [] s us → ⊥
nothing_left depth s us h = let f = stmt_falls depth [] s us h in omega (arith, f)

reads_stmts_case : (depth : ℕ) (one : Reader Stmt) → CompleteStmt depth one → (n : ℕ) (t : Token) (ts : List Token) (b : Body) (us : List Token) → length (t ∷ ts) ≤ suc n → is_end us ≡ true
    → ((vs : List Token) (c : Body) → length vs ≤ n → AreStmts depth vs c us → read_stmts one n vs ≡ Some (stmts_of c, us))
    → (silent : Bool) → is_silent t ≡ silent → AreStmts depth (t ∷ ts) b us → read_stmts one (suc n) (t ∷ ts) ≡ Some (stmts_of b, us)
unfolding read_stmts
reads_stmts_case depth one complete n t ts b us h ends more true is are =
    let short : length ts ≤ n = omega (arith, h) in
    rw is (more ts b short (unskip_silent depth t ts b us is are))
reads_stmts_case depth one complete n t ts end us h ends more false is are =
    let same : t ∷ ts ≡ us = rw is at are in
    let stops : ends_body (t ∷ ts) ≡ true = subst (λ l. is_end l ≡ true) (sym same) ends in
    rw (is, stops) (ap (λ (l : List Token). Some ([], l)) same)
reads_stmts_case depth one complete n t ts (stmt s b) us h ends more false is (vs, first, are) =
    let here : IsStmt depth (t ∷ ts) s vs = rw is at first in
    let f = stmt_falls depth (t ∷ ts) s vs here in
    let short : length vs ≤ n = omega (arith, h, f) in
    rw (is, no_end depth (t ∷ ts) s vs here, complete (t ∷ ts) s vs here, more vs b short are) refl

reads_stmts : (depth : ℕ) (one : Reader Stmt) → CompleteStmt depth one → (n : ℕ) (ts : List Token) (b : Body) (us : List Token) → length ts ≤ n → is_end us ≡ true → AreStmts depth ts b us → read_stmts one n ts ≡ Some (stmts_of b, us)
unfolding read_stmts
reads_stmts depth one complete zero [] end us h ends are = rw (← are) refl
reads_stmts depth one complete (suc n) [] end us h ends are = rw (← are) refl
reads_stmts depth one complete n [] (stmt s b) us h ends are = absurd (nothing_left depth s are.0 are.1)
reads_stmts depth one complete zero (t ∷ ts) b us h ends are = absurd (omega (arith, h))
reads_stmts depth one complete (suc n) (t ∷ ts) b us h ends are =
    reads_stmts_case depth one complete n t ts b us h ends (λ vs c g i. reads_stmts depth one complete n vs c us g ends i) (is_silent t) refl are

-- a body is read where what is left ends it
pub reads_body : (depth : ℕ) (one : Reader Stmt) → CompleteStmt depth one → (ts : List Token) (b : Body) (us : List Token) → is_end us ≡ true → AreStmts depth ts b us → read_body one ts ≡ Some (b, us)
unfolding read_body
reads_body depth one complete ts b us ends are = rw (reads_stmts depth one complete (length ts) ts b us (omega arith) ends are) (ap (λ (x : Body). Some (x, us)) (body_of-stmts b))

ends_is_end : (us : List Token) → ends_body us ≡ true → is_end us ≡ true
ends_is_end [] e = refl
ends_is_end (t ∷ ts) e = e

pub bodies_complete : (depth : ℕ) (one : Reader Stmt) → CompleteStmt depth one → Complete depth (read_body one)
bodies_complete depth one complete ts b us ends are = reads_body depth one complete ts b us (ends_is_end us ends) are

-- a statement with others in it
nested_is : (depth : ℕ) (inner : Reader Body) (filling : Reader Slots) (head : Reader Stmt) → Sound depth inner → SoundFilling depth filling → SoundHead (suc depth) head → SoundStmt (suc depth) (read_nested inner filling head)
unfolding read_nested
nested_is depth inner filling head sound sound_filling sound_head ts p e =
    elim (one_gave (stands k.OpenBlock ts) _ _ p e) [
      | inl h ↦ block_is depth head sound_head ts p h.1
      | inr f ↦ elim (one_gave (stands k.TagOpening ts) _ _ p f.1) [ inl h ↦ tag_is depth inner filling sound sound_filling ts p h.1 | inr h ↦ read_flat_is (suc depth) ts p h.1 ]
    ]

abbrev shape : Stmt → Type 0
shape s = (is_flat s ≡ true) ⊎ ((is_tag s ≡ true) ⊎ (is_block s ≡ true))

shape_of : (s : Stmt) → shape s
shape_of (text_stmt x) = inl refl
shape_of (comment_stmt x) = inl refl
shape_of (put e) = inl refl
shape_of (yield es to) = inl refl
shape_of (element tag ps b) = inr (inl refl)
shape_of (component_stmt c ps given ss) = inr (inl refl)
shape_of (if_stmt e unless b c) = inr (inr refl)
shape_of (each e key ns b c) = inr (inr refl)
shape_of (let_stmt es ns b) = inr (inr refl)

reads_nested_case : (depth : ℕ) (inner : Reader Body) (filling : Reader Slots) (head : Reader Stmt) → Complete depth inner → CompleteFilling depth filling → CompleteHead (suc depth) head → (ts : List Token) (s : Stmt) (us : List Token) → shape s → IsStmt (suc depth) ts s us → read_nested inner filling head ts ≡ Some (s, us)
unfolding read_nested
reads_nested_case depth inner filling head complete fills complete_head ts s us (inl f) h =
    let (kind, vs, m, a, b) = first_of_flat (suc depth) ts s us f h in
    rw (stands_mark kind k.OpenBlock ts vs m, a, stands_mark kind k.TagOpening ts vs m, b) (reads_flat (suc depth) ts s us f h)
reads_nested_case depth inner filling head complete fills complete_head ts s us (inr (inl f)) h =
    let m = tag_first depth ts s us f h in
    rw (stands_mark k.TagOpening k.OpenBlock ts m.0 m.1, stands_mark k.TagOpening k.TagOpening ts m.0 m.1) (reads_tag depth inner filling complete fills ts s us f h)
reads_nested_case depth inner filling head complete fills complete_head ts s us (inr (inr f)) h =
    let m = block_first depth ts s us f h in
    rw (stands_mark k.OpenBlock k.OpenBlock ts m.0 m.1) (reads_block depth head complete_head ts s us f h)

reads_nested : (depth : ℕ) (inner : Reader Body) (filling : Reader Slots) (head : Reader Stmt) → Complete depth inner → CompleteFilling depth filling → CompleteHead (suc depth) head → CompleteStmt (suc depth) (read_nested inner filling head)
reads_nested depth inner filling head complete fills complete_head ts s us h = reads_nested_case depth inner filling head complete fills complete_head ts s us (shape_of s) h

-- a block from its word on
blocks_are : (depth : ℕ) (one chained : Reader Stmt) → SoundStmt depth one → SoundHead depth chained → SoundHead (suc depth) (read_block_with one chained)
unfolding read_block_with
blocks_are depth one chained sound sound_head ts p e =
    let bodies = bodies_sound depth one sound in
    head_is depth (read_body one) (read_else (read_body one) chained) bodies (else_is depth (read_body one) chained bodies sound_head) ts p e

reads_blocks : (depth : ℕ) (one chained : Reader Stmt) → CompleteStmt depth one → CompleteHead depth chained → CompleteHead (suc depth) (read_block_with one chained)
unfolding read_block_with
reads_blocks depth one chained complete complete_head ts s us closes h =
    let bodies = bodies_complete depth one complete in
    reads_head depth (read_body one) (read_else (read_body one) chained) bodies (reads_else depth (read_body one) chained bodies complete_head) ts s us closes h

flat_sound : SoundStmt zero read_flat
flat_sound ts p e = read_flat_is zero ts p e

flat_complete : CompleteStmt zero read_flat
flat_complete ts (text_stmt x) us h = reads_flat zero ts (text_stmt x) us refl h
flat_complete ts (comment_stmt x) us h = reads_flat zero ts (comment_stmt x) us refl h
flat_complete ts (put e) us h = reads_flat zero ts (put e) us refl h
flat_complete ts (yield es to) us h = reads_flat zero ts (yield es to) us refl h
flat_complete ts s us h = absurd h

-- no block is passed where none may nest
no_filling : SoundFilling zero (read_filling zero)
unfolding read_filling
no_filling ts p starts e = let r : ⊥ = cc in absurd r

no_fills : CompleteFilling zero (read_filling zero)
no_fills ts no_slots us none some new are = let r : ⊥ = cc in absurd r
no_fills ts (block name ns b ss) us none some new are = absurd are

-- all at every depth
record AllSound (depth : ℕ) : Type 0 where
  stmts : SoundStmt depth (read_stmt depth)
  filling : SoundFilling depth (read_filling depth)
  heads : SoundHead depth (read_chained depth)

all_sound : (depth : ℕ) → AllSound depth
unfolding read_stmt read_filling read_chained
all_sound zero = record { stmts = flat_sound; filling = no_filling; heads = λ ts p e. let r : ⊥ = cc in absurd r }
all_sound (suc depth) =
    let p = all_sound depth in
    let heads = blocks_are depth (read_stmt depth) (read_chained depth) p.stmts p.heads in
    let bodies = bodies_sound depth (read_stmt depth) p.stmts in
    record {
      stmts = nested_is depth (read_body (read_stmt depth)) (read_filling depth) (read_block_with (read_stmt depth) (read_chained depth)) bodies p.filling heads;
      filling = slots_sound depth (read_body (read_stmt depth)) bodies;
      heads = heads;
    }

record AllComplete (depth : ℕ) : Type 0 where
  stmts : CompleteStmt depth (read_stmt depth)
  filling : CompleteFilling depth (read_filling depth)
  heads : CompleteHead depth (read_chained depth)

all_complete : (depth : ℕ) → AllComplete depth
unfolding read_stmt read_filling read_chained
all_complete zero = record { stmts = flat_complete; filling = no_fills; heads = λ ts s us closes h. absurd h }
all_complete (suc depth) =
    let p = all_complete depth in
    let heads = reads_blocks depth (read_stmt depth) (read_chained depth) p.stmts p.heads in
    let bodies = bodies_complete depth (read_stmt depth) p.stmts in
    record {
      stmts = reads_nested depth (read_body (read_stmt depth)) (read_filling depth) (read_block_with (read_stmt depth) (read_chained depth)) bodies p.filling heads;
      filling = slots_complete depth (read_body (read_stmt depth)) (body_falls depth) bodies;
      heads = heads;
    }

pub read_stmt_is : (depth : ℕ) → SoundStmt depth (read_stmt depth)
read_stmt_is depth = (all_sound depth).stmts

pub reads_stmt : (depth : ℕ) → CompleteStmt depth (read_stmt depth)
reads_stmt depth = (all_complete depth).stmts

pub read_chained_is : (depth : ℕ) → SoundHead depth (read_chained depth)
read_chained_is depth = (all_sound depth).heads

pub reads_chained : (depth : ℕ) → CompleteHead depth (read_chained depth)
reads_chained depth = (all_complete depth).heads

-- what is read leaves fewer tokens
pub read_stmt_falls : (depth : ℕ) (ts : List Token) (s : Stmt) (us : List Token) → read_stmt depth ts ≡ Some (s, us) → length us < length ts
read_stmt_falls depth ts s us e = stmt_falls depth ts s us (read_stmt_is depth ts (s, us) e)

pub read_slot_falls : (depth : ℕ) (ts : List Token) (x : Named) (us : List Token) → read_slot (read_body (read_stmt depth)) ts ≡ Some (x, us) → length us < length ts
read_slot_falls depth ts x us e =
    let bodies = bodies_sound depth (read_stmt depth) (read_stmt_is depth) in
    slot_falls depth (body_falls depth) ts x.0 x.1.0 x.1.1 us (slot_is depth (read_body (read_stmt depth)) bodies ts (x, us) e)
