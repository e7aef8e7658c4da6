-- What CORBLK decides can be made: the job whose pages it changes is there, and a page that it
-- makes has room.
use Rattle.std.specs.Prelude.{if◌then◌else◌, ◌==◌, ◌&&◌, ◌≡◌, ◌<◌, ℕ, Bool, true, false, not, Option, Some, None, is_some, [], ◌∷◌, nat_lt, refl}
use Rattle.std.proofs.Common.{◌∙◌, ap, subst, arith}
use Rattle.std.proofs.lemmas.Bool.{not-false, ltb-true, eqb-true, ne_eqb}
use Rattle.its_word.specs.Core.{Core, Page, page_of}
use Rattle.its_word.specs.Limits.{slots, most_pages}
use Rattle.its_records.specs.declared.calls.Ask.{Ask}
use Rattle.its_frame.specs.declared.change.Change.TheVariants as changes
use Rattle.its_plain.specs.Call.Arguments.{input}
use Rattle.its_plain.specs.Call.Basic.{Oneself, is_oneself, channel_at, party_on, party}
use Rattle.its_plain.specs.Call.Core.{page_changed, highest_operation, makes, has_page, is_amiss, page_tests, pages_of, corblk_of, corblk}
use Rattle.its_plain.specs.Call.Usr.{other_core}
use Rattle.its_plain.specs.Machine.{Chan, On, Machine, core_of, mapped}
use Rattle.its_plain.specs.Call.Tests.{◌⇒◌, fails, finishes}
use Rattle.its_plain.specs.Machine.View.{View}
use Rattle.its_stepped.proofs.Committing.TestLaws.{first_holds}
use Rattle.its_shared.specs.Can.{HasJob, HasPage, Maps}
use Rattle.its_shared.proofs.CanLaws.{Beside, CanAll, Can}

-- the job of slot s is there, and its core is this one
pub record Owns (m : Machine) (s : ℕ) (c : Core) : Type 0 where
  pub slot : s < slots
  pub job : HasJob m s
  pub core : core_of (m.jobs s) ≡ c

-- what CORBLK finds: its own job, and that of a channel on an inferior; how many pages there are;
-- and what a page asks that it makes
pub record FindsPages (v : Beside) (x : View) (m : Machine) (j : ℕ) (a : Ask) : Type 0 where
  pub own : Owns m x.slot x.own.core
  pub inferior : (s at : ℕ) (write : Bool) → channel_at x.own.channels (input a 1) ≡ On s write at → Owns m s (other_core x)
  pub pages : x.pages ≡ mapped m
  pub clear : makes (input a 0) ≡ true → v.page

-- a page that is made is not there, and any other is
amiss_absent : (b : Bool) (o : Option Page) → is_amiss b (is_some o) ≡ false → b ≡ true → o ≡ None
amiss_absent true None h e = refl
amiss_absent true (Some p) h e = cc
amiss_absent false o h e = cc

amiss_there : (b there : Bool) → is_amiss b there ≡ false → b ≡ false → there ≡ true
amiss_there false there h e = not-false there h
amiss_there true there h e = cc

has_room : (b l : Bool) → (b && not l) ≡ false → b ≡ true → l ≡ true
has_room true l h e = not-false l h
has_room false l h e = cc

-- of a job that is there
module _ (v : Beside) (j : ℕ) (m : Machine) (x : View) (a : Ask) (s k : ℕ) (c : Core) (f : FindsPages v x m j a) (o : Owns m s c) where
  maps : makes (input a 0) ≡ true → is_amiss (makes (input a 0)) (has_page c k) ≡ false
      → (makes (input a 0) && not (nat_lt x.pages most_pages)) ≡ false → Maps m s k
  maps one amiss full = record {
    slot = o.slot;
    job = o.job;
    absent = ap (λ (d : Core). page_of d k) o.core ∙ amiss_absent (makes (input a 0)) (page_of c k) amiss one;
    room = subst (λ (n : ℕ). n < most_pages) f.pages (ltb-true x.pages most_pages (has_room (makes (input a 0)) (nat_lt x.pages most_pages) full one));
  }

  is_there : makes (input a 0) ≡ false → is_amiss (makes (input a 0)) (has_page c k) ≡ false → HasPage m s k
  is_there other amiss = record {
    slot = o.slot;
    job = o.job;
    there = ap (λ (d : Core). is_some (page_of d k)) o.core ∙ amiss_there (makes (input a 0)) (has_page c k) amiss other;
  }

-- operation 0 makes no page
drops : (op : ℕ) → (op == 0) ≡ true → makes op ≡ false
drops op h = let zero_is : op ≡ 0 = eqb-true op 0 h in ne_eqb op 1 (λ one. absurd (omega arith))

changed_can : (v : Beside) (j : ℕ) (m : Machine) (op s k : ℕ) → (makes op ≡ true → Maps m s k × v.page) → (makes op ≡ false → HasPage m s k)
    → CanAll v (page_changed op s k ∷ []) j m
changed_can v j m op s k maps there = go (op == 0) (makes op) (drops op) maps there
  where
    go : (d b : Bool) → (d ≡ true → b ≡ false) → (b ≡ true → Maps m s k × v.page) → (b ≡ false → HasPage m s k)
        → CanAll v ((if d then changes.Unmap s k else (if b then changes.Map s k else changes.Protect s k (op == 3))) ∷ []) j m
    go true b drop maps there = (there (drop refl), tt)
    go false true drop maps there = maps refl
    go false false drop maps there = (there refl, tt)

pages_can : (v : Beside) (j : ℕ) (m : Machine) (x : View) (a : Ask) (s : ℕ) (c : Core) → FindsPages v x m j a → Owns m s c
    → Can v j m (pages_of x a (input a 0) s c (input a 2))
pages_can v j m x a s c f o =
    let op = input a 0 in
    let k = input a 2 in
    first_holds (Can v j m) (page_tests x a op c k) (finishes x (page_changed op s k ∷ []) []) (λ t. tt, (λ t. tt, (λ t. tt, tt)))
    (λ t. changed_can v j m op s k (λ one. (maps v j m x a s k c f o one t.1.0 t.1.1.0, f.clear one)) (λ other. is_there v j m x a s k c f o other t.1.0))

channel_can : (v : Beside) (j : ℕ) (m : Machine) (x : View) (a : Ask) (h : Chan) → FindsPages v x m j a
    → channel_at x.own.channels (input a 1) ≡ h → Can v j m (corblk_of x a (party_on h))
channel_can v j m x a (On s true at) f is = pages_can v j m x a s (other_core x) f (f.inferior s at true is)
channel_can v j m x a _ f is = tt

pub corblk_can : (v : Beside) (j : ℕ) (m : Machine) (x : View) (a : Ask) → FindsPages v x m j a → Can v j m (corblk x a)
unfolding corblk
corblk_can v j m x a f =
    first_holds (Can v j m) (nat_lt highest_operation (input a 0) ⇒ fails x a 0o22 ∷ []) (corblk_of x a (party x (input a 1))) (λ t. tt, tt)
    (λ t. go (is_oneself (input a 1)))
  where
    go : (b : Bool) → Can v j m (corblk_of x a (if b then Oneself else party_on (channel_at x.own.channels (input a 1))))
    go true = pages_can v j m x a x.slot x.own.core f f.own
    go false = channel_can v j m x a (channel_at x.own.channels (input a 1)) f refl
