-- What `read` answers for the bytes of an image and the lent words xs and ls, and what these
-- become: 1 where no site by form has this image, 12 where the words are too few for its site, else
-- they hold exactly that site.
use Rattle.std.specs.Prelude.{◌≡◌, Bool, true, false, List, ℕ, length}
use Rattle.rules.specs.Site.{Site}
use Rattle.rules.specs.Form.{form}
use Rattle.rules.specs.declared.model.Answer.{Answer}
use Rattle.rules.specs.declared.model.Refusal.{Refusal}
use Rattle.memory.specs.Memory.{enough, past_site, past_links, site_of, memory_form}
use Rattle.image.specs.Image.{image_of}

-- the words xs and ls are enough for the site
abbrev pub enough_for : Site → List ℕ → List ℕ → Bool
enough_for s xs ls = enough s.n s.J s.L xs ls

-- the words xs and ls have become ys and ks, which hold exactly the site of the image; what follows
-- its rows and links is as it was
pub record Holds (bytes xs ls ys ks : List ℕ) : Type 0 where
  pub form : memory_form ys ks ≡ true
  pub image : image_of (site_of ys ks) ≡ bytes
  pub site-words : length ys ≡ length xs
  pub links-words : length ks ≡ length ls
  pub past-site :
      past_site (site_of ys ks).n (site_of ys ks).J ys
      ≡ past_site (site_of ys ks).n (site_of ys ks).J xs
  pub past-links :
      past_links (site_of ys ks).n (site_of ys ks).J (site_of ys ks).L ks
      ≡ past_links (site_of ys ks).n (site_of ys ks).J (site_of ys ks).L ls

pub data ReadIs (bytes xs ls : List ℕ) : Answer → List ℕ → List ℕ → Type 0 where
  not-by-form : ((s : Site) → form s ≡ true → image_of s ≡ bytes → ⊥)
      → ReadIs bytes xs ls (Answer.Refused Refusal.Form) xs ls
  too_short : (s : Site) → form s ≡ true → image_of s ≡ bytes → enough_for s xs ls ≡ false
      → ReadIs bytes xs ls (Answer.Refused Refusal.Buffer) xs ls
  done : {ys ks : List ℕ} → Holds bytes xs ls ys ks → ReadIs bytes xs ls Answer.Done ys ks
