-- The starred cases of the paper, one table: what the rules give, and what the paper says.
use Rattle.std.specs.Prelude.{ℕ, Bool, List, [], ◌∷◌, eqb, length}
use Rattle.rules.specs.Sizes.{majority_of}
use Rattle.rules.specs.Numbers.{answer_number}
use Rattle.rules.specs.Fields.{with_leads, with_kept, promised}
use Rattle.rules.specs.Site.{Site, Outcome, fresh, fresh_head}
use Rattle.rules.specs.Step.{step}
use Rattle.rules.specs.declared.model.BoxState.{BoxState}
use Rattle.rules.specs.declared.model.Call.{Call}
use Rattle.image.specs.Image.{image_of}
use Rattle.trace.specs.Replay.{replay}
use Rattle.trace.specs.Worked.{typed, input, output}

pub record Star : Type 0 where
  pub gives : ℕ
  pub says : ℕ

abbrev pub star : ℕ → ℕ → Star
star gives says = record { gives = gives; says = says }

-- a fresh site of n boxes, J 16 and L 8, at another epoch, with other boxes present and another
-- head in each box
abbrev pub site_at : ℕ → ℕ → ℕ → (ℕ → BoxState) → Site
site_at n epoch present head = record {
  n = n;
  J = 16;
  L = 8;
  epoch = epoch;
  present = present;
  box = λ b. record { head = head b; records = [] };
  link = λ a b. [];
}

-- five boxes all present after an election; box c leads, each has promised pn; and then Recover c
abbrev pub recovered : ℕ → ℕ → Outcome
recovered pn c =
    step
    (site_at 5 2 31
    (λ b. with_leads (eqb b c) (with_kept (promised pn fresh_head.kept) fresh_head)))
    (Call.Recover c)

abbrev pub pn_after : ℕ → ℕ → ℕ
pn_after pn c = ((recovered pn c).next.box c).head.kept.pn

abbrev pub answer_of : Site → Call → ℕ
answer_of s c = answer_number (step s c).answer

abbrev pub no_heads : ℕ → BoxState
no_heads b = fresh_head

-- a text is its bytes, one after another, and no more
unfoldable pub star_bytes : List ℕ → List ℕ → List Star
star_bytes [] ss = star 0 (length ss) ∷ []
star_bytes (g ∷ gs) [] = star (length (g ∷ gs)) 0 ∷ []
star_bytes (g ∷ gs) (s ∷ ss) = star g s ∷ star_bytes gs ss

unfoldable pub stars : List Star
stars =
    -- "new: 305 rank 5 gives 405; .. 999,999,899 rank 2, 999,999,902"
    star (pn_after 305 5) 405
    ∷ star (pn_after 999999899 2) 999999902
    -- Q-2: "302 with rank 5 gives 305, .. 305 with rank 2 gives 402"
    ∷ star (pn_after 302 5) 305
    ∷ star (pn_after 305 2) 402
    -- Q-2: "0 with rank 1 now gives 1, and 999,999,901 with rank 2 gives 999,999,902; a new one is
    -- 999,999,901 with rank 1, refusal 6"
    ∷ star (pn_after 0 1) 1
    ∷ star (pn_after 999999901 2) 999999902
    ∷ star (answer_number (recovered 999999901 1).answer) 6
    -- "Fresh image: n=3, .. bytes; n=1, .."; Q-12: "starred: 364 and 132 bytes"
    ∷ star (length (image_of (fresh 3 16 8))) 364
    ∷ star (length (image_of (fresh 1 16 8))) 132
    -- "Majority of 4 is 3."
    ∷ star (majority_of 4) 3
    -- "Elect, n=5, two present: 4."
    ∷ star (answer_of (site_at 5 1 3 no_heads) (Call.Elect 1)) 4
    -- "Timeout at 999,998 gives 999,999; at 1,000,000, refusal 5."
    ∷ star (step (site_at 3 999998 7 no_heads) (Call.Timeout 1)).next.epoch 999999
    ∷ star (answer_of (site_at 3 1000000 7 no_heads) (Call.Timeout 1)) 5
    -- "Offer 0 7: 10."
    ∷ star (answer_of (fresh 3 16 8) (Call.Offer 1 0 7)) 10
    -- "The replay above."
    ∷ star_bytes (replay (typed input)) (typed output)

-- the rules give what the paper says
abbrev pub told : Star → Bool
told s = eqb s.gives s.says
