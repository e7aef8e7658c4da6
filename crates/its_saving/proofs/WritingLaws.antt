-- What is written in several calls: lines one after another, and those of the numbers below n.
use Rattle.std.specs.Prelude.{if◌then◌else◌, ◌≡◌, ◌==◌, ◌<◌, ◌≤◌, ℕ, zero, suc, ◌+◌, true, false, Option, Result, Ok, Err, OnOk, OnErr, IsErr, List, [], ◌∷◌, ◌++◌, map, refl}
use Rattle.std.specs.Io.KnownBytes.{Appends}
use Rattle.std.proofs.Common.{sym, ◌∙◌, ap, subst, arith, append_assoc, append-nil, inl, inr}
use Rattle.std.proofs.KnownBytes.{Appends-nil, Appends-trans}
use Rattle.std.proofs.lemmas.Bool.{cases_lt, false≢true}
use Rattle.std.proofs.lemmas.List.{map-append}
use Rattle.std.proofs.lemmas.Grind.{flat_map-append}
use Rattle.its_io.specs.Bytes.{HasCause, Wrote, next_fault}
use Rattle.its_records.specs.declared.session.Event.TheVariants as events
use Rattle.its_records.specs.declared.state_line.StateLine.{StateLine as Line}
use Rattle.its_records.specs.declared.state_line.StateLine.TheVariants as states
use Rattle.its_session.specs.Writing.{event_line, lines_text}
use Rattle.its_saved.specs.StateLine.{StateLine}
use Rattle.its_saved.specs.Saving.{each}
use Rattle.its_saved.specs.Text.{line_of, lines_of, state_text, turn_lines}
use Rattle.its_saving.specs.Written.{Put, Cut, Puts, text_of, Written, Broken, Writes}

-- the text of lines
pub state_text_append : (xs ys : List Line) → state_text (xs ++ ys) ≡ state_text xs ++ state_text ys
unfolding lines_text
state_text_append xs ys = ap (λ es. lines_text es) (map-append events.Restore xs ys) ∙ flat_map-append event_line (map events.Restore xs)
    (map events.Restore ys)

pub text_append : (xs ys : List StateLine) → text_of (xs ++ ys) ≡ text_of xs ++ text_of ys
unfolding text_of
text_append xs ys = ap (λ ls. state_text ls) (map-append line_of xs ys) ∙ state_text_append (lines_of xs) (lines_of ys)

pub line_text : (l : Line) → state_text (l ∷ []) ≡ event_line (events.Restore l)
unfolding lines_text
line_text l = append-nil (event_line (events.Restore l))

no_text : state_text [] ≡ []
unfolding lines_text
no_text = refl

text_none : text_of [] ≡ []
unfolding text_of lines_text
text_none = refl

module _ {S : Type 0} (bytes : S → Option (List ℕ)) (faults : S → ℕ) where
  -- texts
  pub put_none : (a : S) → Put bytes faults a a []
  put_none a = record { appended = Appends-nil (bytes a); unfailed = refl }

  pub put_then : (a b c : S) (s t : List ℕ) → Put bytes faults a b s → Put bytes faults b c t → Put bytes faults a c (s ++ t)
  put_then a b c s t p q = record {
    appended = Appends-trans (bytes a) (bytes b) (bytes c) s t p.appended q.appended;
    unfailed = q.unfailed ∙ p.unfailed;
  }

  pub cut_more : (a b : S) (s t : List ℕ) → Cut bytes faults a b s → Cut bytes faults a b (s ++ t)
  cut_more a b s t c = record {
    wrote = c.wrote;
    part = record {
      appended = c.part.appended;
      rest = (c.part.rest.0 ++ t, ap (λ x. x ++ t) c.part.rest.1 ∙ append_assoc c.wrote c.part.rest.0 t);
    };
    later = c.later;
    failed = c.failed;
  }

  pub cut_then : (a b c : S) (s t : List ℕ) → Put bytes faults a b s → Cut bytes faults b c t → Cut bytes faults a c (s ++ t)
  cut_then a b c s t p q = record {
    wrote = s ++ q.wrote;
    part = record {
      appended = Appends-trans (bytes a) (bytes b) (bytes c) s q.wrote p.appended q.part.appended;
      rest = (q.part.rest.0, ap (λ x. s ++ x) q.part.rest.1 ∙ sym (append_assoc s q.wrote q.part.rest.0));
    };
    later = (let e = p.unfailed in let l = q.later in omega arith);
    failed = q.failed ∙ ap next_fault p.unfailed;
  }

  pub puts_ok : {T E : Type 0} (a b : S) (r : Result T E) (x : T) (t : List ℕ) → r ≡ Ok x → Put bytes faults a b t → Puts bytes faults a b r t
  puts_ok a b r x t e p = subst (λ o. Puts bytes faults a b o t) (sym e) (record { so = p })

  pub put_of : {T E : Type 0} (a b : S) (r : Result T E) (x : T) (t : List ℕ) → r ≡ Ok x → Puts bytes faults a b r t → Put bytes faults a b t
  put_of a b r x t e p = (subst (λ o. Puts bytes faults a b o t) e p).so

  pub cut_of : {T E : Type 0} (a b : S) (r : Result T E) (x : E) (t : List ℕ) → r ≡ Err x → Puts bytes faults a b r t → Cut bytes faults a b t
  cut_of a b r x t e p = (subst (λ o. Puts bytes faults a b o t) e p).so

  pub puts_cut : {T E : Type 0} (a b : S) (r : Result T E) (t : List ℕ) → IsErr r → Cut bytes faults a b t → Puts bytes faults a b r t
  puts_cut a b (Ok x) t is c = absurd (false≢true is)
  puts_cut a b (Err e) t is c = record { so = c }

  pub puts_then : {T E : Type 0} (a b c : S) (r : Result T E) (s t : List ℕ) → Put bytes faults a b s → Puts bytes faults b c r t
      → Puts bytes faults a c r (s ++ t)
  puts_then a b c (Ok x) s t p q = record { so = put_then a b c s t p q.so }
  puts_then a b c (Err e) s t p q = record { so = cut_then a b c s t p q.so }

  -- what `write_all` says
  pub puts_all : {T E : Type 0} (a b : S) (r : Result T E) (t : List ℕ) → OnOk r (Appends (bytes a) (bytes b) t)
      → OnErr r ((wrote : List ℕ) × Wrote (bytes a) (bytes b) wrote t) → HasCause (faults a) (faults b) r → Puts bytes faults a b r t
  puts_all a b (Ok x) t all begun cause = record { so = record { appended = all; unfailed = cause.kept } }
  puts_all a b (Err e) t all begun cause = record { so = record { wrote = begun.0; part = begun.1; later = cause.later; failed = cause.failed } }

  -- and back
  pub all_put : {T E : Type 0} (a b : S) (r : Result T E) (t : List ℕ) → Puts bytes faults a b r t → OnOk r (Appends (bytes a) (bytes b) t)
  all_put a b (Ok x) t p = p.so.appended
  all_put a b (Err e) t p = tt

  pub begun_put : {T E : Type 0} (a b : S) (r : Result T E) (t : List ℕ) → Puts bytes faults a b r t
      → OnErr r ((wrote : List ℕ) × Wrote (bytes a) (bytes b) wrote t)
  begun_put a b (Ok x) t p = tt
  begun_put a b (Err e) t p = (p.so.wrote, p.so.part)

  pub cause_put : {T E : Type 0} (a b : S) (r : Result T E) (t : List ℕ) → Puts bytes faults a b r t → HasCause (faults a) (faults b) r
  cause_put a b (Ok x) t p = let e = p.so.unfailed in record { later = omega arith; kept = e; failed = tt }
  cause_put a b (Err e) t p = record { later = p.so.later; kept = tt; failed = p.so.failed }

  -- lines
  one_put : (a b : S) (l : StateLine) → Put bytes faults a b (state_text (line_of l ∷ [])) → Put bytes faults a b (text_of (l ∷ []))
  unfolding text_of
  one_put a b l p = p

  one_cut : (a b : S) (l : StateLine) → Cut bytes faults a b (state_text (line_of l ∷ [])) → Cut bytes faults a b (text_of (l ∷ []))
  unfolding text_of
  one_cut a b l p = p

  pub writes_line : {T E : Type 0} (a b : S) (r : Result T E) (l : StateLine) (line : Line) → line ≡ line_of l → Puts bytes faults a b r (state_text (line ∷ []))
      → Writes bytes faults a b r (l ∷ [])
  writes_line a b r l line e p = by r (subst (λ (x : Line). Puts bytes faults a b r (state_text (x ∷ []))) e p)
    where
      by : {T E : Type 0} (o : Result T E) → Puts bytes faults a b o (state_text (line_of l ∷ [])) → Writes bytes faults a b o (l ∷ [])
      by (Ok x) q = record { so = record { put = one_put a b l q.so } }
      by (Err x) q = record { so = record { cut = one_cut a b l q.so } }

  pub puts_lines : {T E : Type 0} (a b : S) (r : Result T E) (ls : List StateLine) → Writes bytes faults a b r ls → Puts bytes faults a b r (text_of ls)
  puts_lines a b (Ok x) ls w = record { so = w.so.put }
  puts_lines a b (Err e) ls w = record { so = w.so.cut }

  pub none_written : (a : S) → Written bytes faults a a []
  none_written a = record { put = subst (λ t. Put bytes faults a a t) (sym text_none) (put_none a) }

  pub then_written : (a b c : S) (xs ys : List StateLine) → Written bytes faults a b xs → Written bytes faults b c ys → Written bytes faults a c (xs ++ ys)
  then_written a b c xs ys p q = record {
    put = subst (λ t. Put bytes faults a c t) (sym (text_append xs ys)) (put_then a b c (text_of xs) (text_of ys) p.put q.put);
  }

  pub then_broken : (a b c : S) (xs ys : List StateLine) → Written bytes faults a b xs → Broken bytes faults b c ys → Broken bytes faults a c (xs ++ ys)
  then_broken a b c xs ys p q = record {
    cut = subst (λ t. Cut bytes faults a c t) (sym (text_append xs ys)) (cut_then a b c (text_of xs) (text_of ys) p.put q.cut);
  }

  pub broken_more : (a b : S) (xs ys : List StateLine) → Broken bytes faults a b xs → Broken bytes faults a b (xs ++ ys)
  broken_more a b xs ys p = record {
    cut = subst (λ t. Cut bytes faults a b t) (sym (text_append xs ys)) (cut_more a b (text_of xs) (text_of ys) p.cut);
  }

  pub writes_ok : {T E : Type 0} (a b : S) (x : T) (ls : List StateLine) → Written bytes faults a b ls → Writes {E = E} bytes faults a b (Ok x) ls
  writes_ok a b x ls p = record { so = p }

  pub then_writes : {T E : Type 0} (a b c : S) (r : Result T E) (xs ys : List StateLine) → Written bytes faults a b xs → Writes bytes faults b c r ys
      → Writes bytes faults a c r (xs ++ ys)
  then_writes a b c (Ok x) xs ys p q = record { so = then_written a b c xs ys p q.so }
  then_writes a b c (Err e) xs ys p q = record { so = then_broken a b c xs ys p q.so }

  pub written_of : {T E : Type 0} (a b : S) (r : Result T E) (x : T) (ls : List StateLine) → r ≡ Ok x → Writes bytes faults a b r ls
      → Written bytes faults a b ls
  written_of a b r x ls e p = (subst (λ o. Writes bytes faults a b o ls) e p).so

  pub broken_of : {T E : Type 0} (a b : S) (r : Result T E) (x : E) (ls : List StateLine) → r ≡ Err x → Writes bytes faults a b r ls
      → Broken bytes faults a b ls
  broken_of a b r x ls e p = (subst (λ o. Writes bytes faults a b o ls) e p).so

  pub writes_broken : {T E : Type 0} (a b : S) (r : Result T E) (ls : List StateLine) → IsErr r → Broken bytes faults a b ls → Writes bytes faults a b r ls
  writes_broken a b (Ok x) ls is p = absurd (false≢true is)
  writes_broken a b (Err e) ls is p = record { so = p }

  -- by another name
  pub writes_at : {X T E : Type 0} (f : X → List StateLine) (a b : S) (r : Result T E) (x y : X) → x ≡ y → Writes bytes faults a b r (f x)
      → Writes bytes faults a b r (f y)
  writes_at f a b r x y e w = subst (λ z. Writes bytes faults a b r (f z)) e w

  pub none_at : {X T E : Type 0} (f : X → List StateLine) (a : S) (u : T) (x y : X) → x ≡ y → f x ≡ [] → Writes {E = E} bytes faults a a (Ok u) (f y)
  none_at f a u x y e none = record { so = subst (λ ls. Written bytes faults a a ls) (sym none ∙ ap f e) (none_written a) }

  -- the first of two fails, and the second
  pub first_broken : {T E U D : Type 0} (a b : S) (r : Result T E) (x : E) (o : Result U D) (xs ys : List StateLine) → r ≡ Err x → Writes bytes faults a b r xs
      → IsErr o → Writes bytes faults a b o (xs ++ ys)
  first_broken a b r x o xs ys e w is = writes_broken a b o (xs ++ ys) is (broken_more a b xs ys (broken_of a b r x xs e w))

  pub first_then : {T E U D : Type 0} (a b c : S) (r : Result T E) (x : T) (o : Result U D) (xs ys : List StateLine) → r ≡ Ok x → Writes bytes faults a b r xs
      → Writes bytes faults b c o ys → Writes bytes faults a c o (xs ++ ys)
  first_then a b c r x o xs ys e w v = then_writes a b c o xs ys (written_of a b r x xs e w) v

  -- a list one item after another
  pub next_written : {T E : Type 0} (a b c : S) (r : Result T E) (x : T) (xs ys zs : List StateLine) → zs ≡ xs ++ ys → Written bytes faults a b xs → r ≡ Ok x
      → Writes bytes faults b c r ys → Written bytes faults a c zs
  next_written a b c r x xs ys zs is p e w = subst (λ ls. Written bytes faults a c ls) (sym is) (then_written a b c xs ys p (written_of b c r x ys e w))

  pub next_cut : {T E U D : Type 0} (a b c : S) (r : Result T E) (x : E) (o : Result U D) (xs ys rest zs : List StateLine) → zs ≡ (xs ++ ys) ++ rest
      → Written bytes faults a b xs → r ≡ Err x → Writes bytes faults b c r ys → IsErr o → Writes bytes faults a c o zs
  next_cut a b c r x o xs ys rest zs is p e w err = subst (λ ls. Writes bytes faults a c o ls) (sym is)
      (writes_broken a c o ((xs ++ ys) ++ rest) err (broken_more a c (xs ++ ys) rest (then_broken a b c xs ys p (broken_of b c r x ys e w))))

  -- lines, then other lines of a session, and then some more
  module _ (a b c d : S) (xs : List StateLine) (ts us : List Line) where
    abbrev Whole : {T E : Type 0} → S → Result T E → Type 0
    Whole z o = Puts bytes faults a z o (state_text (lines_of xs ++ (ts ++ us)))

    joined_text : state_text (lines_of xs ++ (ts ++ us)) ≡ text_of xs ++ (state_text ts ++ state_text us)
    unfolding text_of
    joined_text = state_text_append (lines_of xs) (ts ++ us) ∙ ap (λ t. state_text (lines_of xs) ++ t) (state_text_append ts us)

    pub ready_put : {T U V E D F : Type 0} (r : Result T E) (x : T) (q : Result U D) (y : U) (o : Result V F) → r ≡ Ok x → Writes bytes faults a b r xs → q ≡ Ok y
        → Puts bytes faults b c q (state_text ts) → Puts bytes faults c d o (state_text us) → Whole d o
    ready_put r x q y o e w g v u = subst (λ t. Puts bytes faults a d o t) (sym joined_text)
        (puts_then a b d o (text_of xs) (state_text ts ++ state_text us) (written_of a b r x xs e w).put
        (puts_then b c d o (state_text ts) (state_text us) (put_of b c q y (state_text ts) g v) u))

    pub first_cut : {T V E F : Type 0} (r : Result T E) (x : E) (o : Result V F) → r ≡ Err x → Writes bytes faults a b r xs → IsErr o → Whole b o
    first_cut r x o e w is = puts_cut a b o _ is (subst (λ t. Cut bytes faults a b t) (sym joined_text)
        (cut_more a b (text_of xs) (state_text ts ++ state_text us) (broken_of a b r x xs e w).cut))

    pub second_cut : {T U V E D F : Type 0} (r : Result T E) (x : T) (q : Result U D) (y : D) (o : Result V F) → r ≡ Ok x → Writes bytes faults a b r xs → q ≡ Err y
        → Puts bytes faults b c q (state_text ts) → IsErr o → Whole c o
    second_cut r x q y o e w g v is = puts_cut a c o _ is (subst (λ t. Cut bytes faults a c t) (sym joined_text)
        (cut_then a b c (text_of xs) (state_text ts ++ state_text us) (written_of a b r x xs e w).put
        (cut_more b c (state_text ts) (state_text us) (cut_of b c q y (state_text ts) g v))))

  -- TURN
  pub turn_none : {T E : Type 0} (a : S) (u : T) (last : ℕ) → (last == 95) ≡ true → Puts {E = E} bytes faults a a (Ok u) (state_text (turn_lines last))
  turn_none a u last e = record {
    so = subst (λ ls. Put bytes faults a a (state_text ls))
        (ap (λ t. if t then [] else states.Turn last ∷ []) (sym e)) (subst (λ t. Put bytes faults a a t) (sym no_text) (put_none a));
  }

  pub turn_some : {T E : Type 0} (a b : S) (r : Result T E) (last : ℕ) → (last == 95) ≡ false → Puts bytes faults a b r (state_text (states.Turn last ∷ []))
      → Puts bytes faults a b r (state_text (turn_lines last))
  turn_some a b r last e p = subst (λ ls. Puts bytes faults a b r (state_text ls)) (ap (λ t. if t then [] else states.Turn last ∷ []) (sym e)) p

  -- the lines of numbers one after another
  module _ (f : ℕ → List StateLine) where
    at_same : {T E : Type 0} (b c : S) (r : Result T E) (k n : ℕ) → k ≡ n → Writes bytes faults b c r (f k) → Writes bytes faults b c r (f n)
    at_same b c r k n e w = subst (λ i. Writes bytes faults b c r (f i)) e w

    pub each_next : {T E : Type 0} (a b c : S) (r : Result T E) (x : T) (k n : ℕ) → k ≡ n → Written bytes faults a b (each f n) → r ≡ Ok x
        → Writes bytes faults b c r (f k) → Written bytes faults a c (each f (n + 1))
    each_next a b c r x k n at p e w =
        let s : suc n ≡ n + 1 = omega arith in
        subst (λ i. Written bytes faults a c (each f i)) s (then_written a b c (each f n) (f n) p (written_of b c r x (f n) e (at_same b c r k n at w)))

    pub each_all : {T E : Type 0} (a b : S) (u : T) (n m : ℕ) → Written bytes faults a b (each f n) → m ≤ n → n ≤ m
        → Writes {E = E} bytes faults a b (Ok u) (each f m)
    each_all a b u n m p ge le = let e : n ≡ m = omega arith in record { so = subst (λ k. Written bytes faults a b (each f k)) e p }

    each_broken : (a b : S) (n m : ℕ) → Broken bytes faults a b (each f n) → n ≤ m → Broken bytes faults a b (each f m)
    each_broken a b n zero p l = let e : n ≡ 0 = omega arith in subst (λ k. Broken bytes faults a b (each f k)) e p
    each_broken a b n (suc m) p l = elim (cases_lt m n) [
      | inl lt ↦ let e : n ≡ suc m = omega arith in subst (λ k. Broken bytes faults a b (each f k)) e p
      | inr ge ↦ broken_more a b (each f m) (f m) (each_broken a b n m p ge)
    ]

    pub each_cut : {T E U D : Type 0} (a b c : S) (r : Result T E) (x : E) (o : Result U D) (k n m : ℕ) → k ≡ n → Written bytes faults a b (each f n)
        → r ≡ Err x → Writes bytes faults b c r (f k) → n < m → IsErr o → Writes bytes faults a c o (each f m)
    each_cut a b c r x o k n m at p e w l is = writes_broken a c o (each f m) is
        (each_broken a c (suc n) m (then_broken a b c (each f n) (f n) p (broken_of b c r x (f n) e (at_same b c r k n at w))) (omega arith))
