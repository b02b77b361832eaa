-- "What it prints, one block an image": "for each body in order `body I general|box K|mail kept` or
-- `body I .. set aside FIELD`; then [the load list]; or `refused 17` alone. .. Each block ends in a
-- line `.`".
use Rattle.std.specs.Prelude.{ℕ, ◌+◌, ◌≤◌, ◌<◌, ◌≡◌, Bool, true, false, List, [], ◌∷◌, ◌++◌, length}
use Rattle.std.specs.Prelude.{drop}
use Rattle.rules.specs.Pick.{pick}
use Rattle.rules.specs.Sizes.{most_number}
use Rattle.values.specs.declared.Field.{Field}
use Rattle.cells.specs.Cells.{chain}
use Rattle.image.specs.Image.{numbers_from}
use Rattle.bodies.specs.Contents.{count_of}
use Rattle.print.specs.Bytes.{bytes}
use Rattle.print.specs.Decimal.{decimal}
use Rattle.found.specs.declared.Spot.{Spot}
use Rattle.std.specs.Prelude.{Ok, Err}
use Rattle.found.specs.Found.{Found}
use Rattle.salvage.specs.declared.Told.{Told}
use Rattle.found.specs.Found.{is_kept, general_found, box_found, mail_found, loads_of, mails_of}
use Rattle.salvage.specs.Table.{sound, boxes_in, general_of, box_body_of, mail_body_of}
use Rattle.salvage.specs.Loads.{loads_text}

-- "FIELD names"
abbrev pub field_text : Field → List ℕ
field_text Field.Flag = bytes "flag"
field_text Field.State = bytes "state"
field_text Field.Phase = bytes "phase"
field_text Field.Kind = bytes "kind"
field_text Field.Pn = bytes "pn"
field_text Field.Last = bytes "last"
field_text Field.First = bytes "first"
field_text Field.StoredPn = bytes "stored-pn"
field_text Field.StoredNumber = bytes "stored-number"
field_text Field.BestPn = bytes "best-pn"
field_text Field.BestNumber = bytes "best-number"
field_text Field.Answered = bytes "answered"
field_text Field.Accepts = bytes "accept-set"
field_text Field.Heard = bytes "heard-set"
field_text Field.Best = bytes "best"
field_text Field.Waiting = bytes "waiting"
field_text Field.Agreeing = bytes "being-agreed"
field_text (Field.Peer k) = bytes "peer" ++ decimal k
field_text Field.Unagreed = bytes "unagreed-pn"
field_text Field.Count = bytes "count"

-- `A-B.`, `A-B.mailI.`
abbrev pub link_text : ℕ → ℕ → List ℕ
link_text a b = decimal a ++ (45 ∷ (decimal b ++ (46 ∷ [])))

abbrev pub mail_text : ℕ → ℕ → ℕ → List ℕ
mail_text a b i = link_text a b ++ (bytes "mail" ++ (decimal i ++ (46 ∷ [])))

abbrev pub spot_text : Spot → List ℕ
spot_text Spot.N = bytes "n"
spot_text Spot.J = bytes "J"
spot_text Spot.L = bytes "L"
spot_text Spot.Epoch = bytes "epoch"
spot_text Spot.Present = bytes "present"
spot_text (Spot.At f) = field_text f
spot_text (Spot.Record k) = bytes "record" ++ decimal k
spot_text (Spot.Link a b) = link_text a b ++ bytes "count"
spot_text (Spot.Mail a b i f) = mail_text a b i ++ field_text f
spot_text (Spot.MailRecord a b i k) = mail_text a b i ++ (bytes "record" ++ decimal k)
spot_text Spot.Rest = bytes "rest"

abbrev pub found_text : Found → List ℕ
found_text (Ok u) = bytes " kept\n"
found_text (Err s) = bytes " set aside " ++ (spot_text s ++ (10 ∷ []))

-- `body I` and what it is
abbrev pub general_line : Found → List ℕ
general_line f = bytes "body 1 general" ++ found_text f

abbrev pub box_line : ℕ → Found → List ℕ
box_line b f = bytes "body " ++ (decimal (b + 1) ++ (bytes " box " ++ (decimal b ++ found_text f)))

abbrev pub mail_line : ℕ → Found → List ℕ
mail_line i f = bytes "body " ++ (decimal i ++ (bytes " mail" ++ found_text f))

-- ---- of an image

module _ (im : List ℕ) where
  abbrev pub n : ℕ
  n = boxes_in im

  abbrev pub found_general : Found
  found_general = general_found n (general_of im)

  abbrev pub found_box : ℕ → Found
  found_box b = box_found n (loads_of n (general_of im)) b (box_body_of im b)

  abbrev pub found_mail : Found
  found_mail = mail_found n (loads_of n (general_of im)) (mails_of n (general_of im))
      (mail_body_of im)

  abbrev pub readable : ℕ → Bool
  readable b = is_kept (found_box b)

  -- a line for each body
  unfoldable pub bodies_text : List ℕ
  bodies_text =
      general_line found_general
      ++ (chain (λ b. box_line b (found_box b)) (numbers_from 1 n)
      ++ mail_line (count_of im) found_mail)

  -- and for each number from 1 to the largest
  unfoldable pub kept_text : List ℕ
  kept_text = bodies_text ++ (loads_text readable im n most_number 1 ++ bytes ".\n")

abbrev pub refused_text : List ℕ
refused_text = bytes "refused 17\n.\n"

unfoldable pub block_text : List ℕ → List ℕ
block_text im = pick (sound im) (kept_text im) refused_text

-- ---- what `salvage` answers, and what the buffer o becomes

-- a buffer of so many bytes has room for every block
abbrev pub most_text : ℕ
most_text = 331776

pub data Salvaged (im o : List ℕ) : Told → List ℕ → Type 0 where
  short : length o < most_text → Salvaged im o Told.Short o
  block : most_text ≤ length o → sound im ≡ true
      → Salvaged im o (Told.Block (length (block_text im)))
      (block_text im ++ drop (length (block_text im)) o)
  refused : most_text ≤ length o → sound im ≡ false
      → Salvaged im o (Told.Refused (length (block_text im)))
      (block_text im ++ drop (length (block_text im)) o)
