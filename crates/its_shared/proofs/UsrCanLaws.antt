-- What the calls on inferiors decide can be made: an inferior that a call reaches is there, and one
-- that it removes is neither the caller nor above it.
use Rattle.std.specs.Prelude.{◌&&◌, ◌==◌, ◌≡◌, ◌<◌, ◌+◌, ◌-◌, ◌^◌, ℕ, Bool, true, false, not, Option, Some, None, is_some, [], ◌∷◌, ◌++◌, option_map, unwrap_or, nat_lt, refl}
use Rattle.std.proofs.Common.{sym, ◌∙◌, ap, arith}
use Rattle.std.proofs.lemmas.Bool.{not-false, ltb-true, ltb-false}
use Rattle.its_word.specs.Byte.{load_of}
use Rattle.its_word.specs.Core.{word_at, can_store}
use Rattle.its_word.specs.Limits.{slots}
use Rattle.its_records.specs.Tree.{least_free}
use Rattle.its_word.specs.Word.{right_of}
use Rattle.its_records.specs.declared.calls.Ask.{Ask}
use Rattle.its_records.proofs.FreeLaws.{least_alike, least_empty}
use Rattle.its_frame.specs.declared.change.Change.TheVariants as changes
use Rattle.its_frame.specs.declared.change.Opened.TheVariants as opened
use Rattle.its_frame.specs.declared.name.CallName.{CallName}
use Rattle.its_frame.specs.declared.name.CallName.TheVariants.{Usrmem, Uclose}
use Rattle.its_plain.specs.Call.Arguments.{input, has_input}
use Rattle.its_plain.specs.Call.Basic.{channel_at, ioc, is_shut}
use Rattle.its_plain.specs.Call.File.{end_of_core}
use Rattle.its_plain.specs.Call.Transfer.{store_tests, read_tests, word_of, iot_ends}
use Rattle.its_plain.specs.Call.Usr.{inferior_named, any_named, makes_job, opens_job, usr_tests, opens_usr, other_core, at_end, iot_peeks, iot_from, iot_into, siot_peeks, siot_pokes, set_word, highest_address, usrmem_tests, usrmem_on, usrmem, uclose_on, uclose}
use Rattle.its_plain.specs.Machine.Change.{channel_in, inferior, effect}
use Rattle.its_plain.specs.Call.Decide.{reaching}
use Rattle.its_plain.specs.Machine.{Chan, On, Whole, Machine, core_of, limit}
use Rattle.its_plain.specs.Call.Tests.{◌⇒◌, fails, finishes, goes, out}
use Rattle.its_plain.specs.Machine.View.{View, outline}
use Rattle.its_stepped.proofs.Frame.FrameLaws.{changed_only}
use Rattle.its_stepped.proofs.Committing.TestLaws.{first_holds}
use Rattle.its_shared.specs.Can.{HasJob, Pokes, CanMake}
use Rattle.its_shared.proofs.CanLaws.{Beside, CanAll, Sees, has_job, Can, opening}

-- the inferior of a slot, which a call reaches through a channel: the view has it, and it is there
pub record Aim (x : View) (m : Machine) (s : ℕ) : Type 0 where
  pub slot : s < slots
  pub job : HasJob m s
  pub other : x.other ≡ m.jobs s

-- what the call with this name finds at the channel that its first argument names, if that is on an
-- inferior
pub record Finds (v : Beside) (x : View) (m : Machine) (j : ℕ) (a : Ask) (o : Option CallName) : Type 0 where
  pub inferior : (c : CallName) → o ≡ Some c → reaching c ≡ Some 0 → (s at : ℕ) (write : Bool)
      → channel_at x.own.channels (input a 0) ≡ On s write at → Aim x m s
  pub tree : o ≡ Some Uclose → (s at : ℕ) (write : Bool) → channel_at x.own.channels (input a 0) ≡ On s write at → CanMake (changes.Remove s) j m × v.tree s

-- OPEN: a job is made in the least free slot, and what is made is not the caller, whose channel
-- stays closed
outlined_some : (o : Option Whole) → is_some (option_map outline o) ≡ is_some o
outlined_some (Some q) = refl
outlined_some None = refl

least_seen : (x : View) (m : Machine) (j : ℕ) → Sees x m j → least_free x.limit x.outlines ≡ least_free (limit m) m.jobs
least_seen x m j s =
    (λ t. least_free (s.limit t) (s.outlines t))
    ∙ least_alike (limit m) (λ k. option_map outline (m.jobs k)) m.jobs (λ k. outlined_some (m.jobs k))

caller_kept : (x : View) (m : Machine) (j k u n : ℕ) → Sees x m j → least_free (limit m) m.jobs ≡ Some k → (effect (changes.Make k u n) j m).jobs j ≡ m.jobs j
unfolding effect
caller_kept x m j k u n s e =
    (changed_only m.jobs k (Some (inferior j (m.jobs j) u n))).others j
    (λ same. let wrong : None ≡ Some x.own = sym (least_empty (limit m) m.jobs k e) ∙ ap m.jobs (sym same) ∙ s.job in cc)

makes_job_can : (v : Beside) (j : ℕ) (m : Machine) (x : View) (a : Ask) (n u y : ℕ) (o : Option ℕ) → Sees x m j
    → not (nat_lt n 16 && is_shut (channel_at x.own.channels n)) ≡ false
    → least_free x.limit x.outlines ≡ o → Can v j m (makes_job x a n u y o)
makes_job_can v j m x a n u y None s t e = tt
makes_job_can v j m x a n u y (Some k) s t e =
    let free : least_free (limit m) m.jobs ≡ Some k = sym (least_seen x m j s) ∙ e in
    let same = caller_kept x m j k u y s free in
    let opens = opening x m j n (opened.Usr k true) s t tt in
    (((has_job x m j s, free), tt), ((opens.0, ap is_some same ∙ opens.1, ap (λ (o : Option Whole). channel_in o n) same ∙ opens.2, tt), tt))

opens_job_can : (v : Beside) (j : ℕ) (m : Machine) (x : View) (a : Ask) (n u y : ℕ) (write : Bool) (o : Option ℕ) → Sees x m j
    → not (nat_lt n 16 && is_shut (channel_at x.own.channels n)) ≡ false
    → Can v j m (opens_job x a n u y write o)
opens_job_can v j m x a n u y write (Some k) s t = (opening x m j n (opened.Usr k write) s t tt, tt)
opens_job_can v j m x a n u y write None s t =
    first_holds (Can v j m) (any_named x u y ⇒ fails x a 0o13 ∷ not write ⇒ fails x a 0o12 ∷ [])
    (makes_job x a n u y (least_free x.limit x.outlines)) (λ t. tt, (λ t. tt, tt))
    (λ r. makes_job_can v j m x a n u y (least_free x.limit x.outlines) s t refl)

pub opens_usr_can : (v : Beside) (j : ℕ) (m : Machine) (x : View) (a : Ask) → Sees x m j → Can v j m (opens_usr x a)
unfolding opens_usr
opens_usr_can v j m x a s =
    let control = unwrap_or a.control 0 in
    let named = inferior_named x (input a 2) (input a 3) in
    first_holds (Can v j m) (usr_tests x a (input a 0) control) (opens_job x a (input a 0) (input a 2) (input a 3) (control == 1) named)
    (λ t. tt, (λ t. tt, tt))
    (λ t. opens_job_can v j m x a (input a 0) (input a 2) (input a 3) (control == 1) named s t.0)

-- a word of the inferior at an address that there is
below_end : (at : ℕ) → at_end at ≡ false → at < 2 ^ 18
below_end at h = ltb-true at end_of_core (not-false (nat_lt at end_of_core) h)

pokes : (x : View) (m : Machine) (s at : ℕ) → Aim x m s → at < 2 ^ 18 → can_store (other_core x) at ≡ true → Pokes m s at
pokes x m s at aim l can = record {
  slot = aim.slot;
  address = l;
  job = aim.job;
  can = ap (λ (o : Option Whole). can_store (core_of o) at) (sym aim.other) ∙ can;
}

-- `.IOT`
iot_peeks_can : (v : Beside) (j : ℕ) (m : Machine) (x : View) (e n at : ℕ) (ended : Bool) (o : Option ℕ) → n < 16 → Can v j m (iot_peeks x e n at ended o)
iot_peeks_can v j m x e n at true o l = tt
iot_peeks_can v j m x e n at false (Some w) l = (l, tt)
iot_peeks_can v j m x e n at false None l = tt

pub iot_from_can : (v : Beside) (j : ℕ) (m : Machine) (x : View) (e n at : ℕ) → n < 16 → Can v j m (iot_from x e n at)
iot_from_can v j m x e n at l =
    first_holds (Can v j m) (store_tests x e) (iot_peeks x e n at (at_end at) (word_at (other_core x) at)) (λ t. tt, (λ t. tt, tt))
    (λ t. iot_peeks_can v j m x e n at (at_end at) (word_at (other_core x) at) l)

pub iot_into_can : (v : Beside) (j : ℕ) (m : Machine) (x : View) (e n s at : ℕ) → n < 16 → Aim x m s → Can v j m (iot_into x e n s at)
iot_into_can v j m x e n s at l aim =
    first_holds (Can v j m) (read_tests x e ++ (at_end at ⇒ ioc x ∷ not (can_store (other_core x) at) ⇒ ioc x ∷ []))
    (iot_ends x (changes.Poke s at (word_of x e) ∷ changes.Move n (at + 1) ∷ []) []) (λ t. tt, (λ t. tt, (λ t. tt, tt)))
    (λ t. ((pokes x m s at aim (below_end at t.1.0) (not-false (can_store (other_core x) at) t.1.1.0), tt), (l, tt)))

-- SIOT
pub siot_peeks_can : (v : Beside) (j : ℕ) (m : Machine) (x : View) (a : Ask) (next k n at : ℕ) (o : Option ℕ) → n < 16
    → Can v j m (siot_peeks x a next k n at o)
siot_peeks_can v j m x a next k n at (Some w) l =
    first_holds (Can v j m) (store_tests x (right_of next)) (goes (changes.Move n (at + 1) ∷ [])
    (Some (record { place = right_of next; byte = w })) (next ∷ (k - 1) ∷ [])) (λ t. tt, (λ t. tt, tt))
    (λ t. (l, tt))
siot_peeks_can v j m x a next k n at None l = first_holds (Can v j m) (store_tests x (right_of next)) (fails x a 0o16) (λ t. tt, (λ t. tt, tt)) (λ t. tt)

pub siot_pokes_can : (v : Beside) (j : ℕ) (m : Machine) (x : View) (a : Ask) (next k n s at : ℕ) → n < 16 → Aim x m s → at_end at ≡ false
    → Can v j m (siot_pokes x a next k n s at)
siot_pokes_can v j m x a next k n s at l aim within =
    first_holds (Can v j m) (read_tests x (right_of next) ++ (not (can_store (other_core x) at) ⇒ fails x a 0o16 ∷ []))
    (goes (changes.Poke s at (load_of next (word_of x (right_of next))) ∷ changes.Move n (at + 1) ∷ []) None (next ∷ (k - 1) ∷ [])) (λ t. tt, (λ t. tt, tt))
    (λ t. ((pokes x m s at aim (below_end at within) (not-false (can_store (other_core x) at) t.1.0), tt), (l, tt)))

-- USRMEM and UCLOSE
set_word_can : (v : Beside) (j : ℕ) (m : Machine) (x : View) (s p w : ℕ) (new : Bool) → Aim x m s → p < 2 ^ 18
    → (new && not (can_store (other_core x) p)) ≡ false → CanAll v (set_word s p w new) j m
set_word_can v j m x s p w true aim l can = (pokes x m s p aim l (not-false (can_store (other_core x) p) can), tt)
set_word_can v j m x s p w false aim l can = tt

pub usrmem_can : (v : Beside) (j : ℕ) (m : Machine) (x : View) (a : Ask) → Finds v x m j a (Some Usrmem) → Can v j m (usrmem x a)
unfolding usrmem
usrmem_can v j m x a f = go (channel_at x.own.channels (input a 0)) refl
  where
    p : ℕ
    p = input a 1

    new : Bool
    new = has_input a 2

    go : (c : Chan) → channel_at x.own.channels (input a 0) ≡ c → Can v j m (usrmem_on x a c)
    go (On s write at) is =
        first_holds (Can v j m) (usrmem_tests x a write p new)
        (finishes x (set_word s p (input a 2) new) (out a.outputs.items (unwrap_or (word_at (other_core x) p) 0)))
        (λ t. tt, (λ t. tt, (λ t. tt, (λ t. tt, tt))))
        (λ t. let most = ltb-false highest_address p t.0 in set_word_can v j m x s p (input a 2) new
        (f.inferior Usrmem refl refl s at write is) (omega arith) t.1.1.1.0)
    go _ is = tt

pub uclose_can : (v : Beside) (j : ℕ) (m : Machine) (x : View) (a : Ask) → Finds v x m j a (Some Uclose) → Can v j m (uclose x a)
unfolding uclose
uclose_can v j m x a f = go (channel_at x.own.channels (input a 0)) refl
  where
    go : (c : Chan) → channel_at x.own.channels (input a 0) ≡ c → Can v j m (uclose_on x a c)
    go (On s write at) is = f.tree refl s at write is
    go _ is = tt
