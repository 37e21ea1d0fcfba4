-- What a writer has written, from its header to its last page.
use Rattle.std.proofs.Common.{◌≡◌, ℕ, ◌^◌, ◌<◌, ◌≤◌, Bool, true, false, cond, List, [], ◌∷◌, ◌++◌, length, Option, Some}
use Rattle.std.proofs.Common.{refl, sym, ap, subst, ◌∙◌, append_assoc, arith, inl, inr}
use Rattle.std.specs.Prelude.{IsSome, map, replicate, slice_index, ◌==◌}
use Rattle.std.specs.List.{flat_map}
use Rattle.std.specs.Ordering.{nat_cmp}
use Rattle.std.specs.Cmp.{nat_cmp_total, unsigned_tied}
use Rattle.std.specs.FinMap.{get, insert, keys, entries, empty, get-empty, get-insert, len-empty, len-entries}
use Rattle.std.proofs.lemmas.Bool.{false≢true, cases_eq, eq-eqb, ne_eqb}
use Rattle.std.proofs.lemmas.List.{nil_from_length, append-nil}
use Rattle.byteorder.specs.Endian.{big_bytes}
use Rattle.ls_sums.specs.Crc64.{IsBehind}
use Rattle.ltx_format.specs.declared.header.LtxHeader.{LtxHeader}
use Rattle.ltx_format.specs.LtxFormat.{header_bytes, page_block, page_blocks, summed_bytes, file_sum, index_part}
use Rattle.ltx_format.specs.LtxFormat.{IsHeader, IsStored, ArePages, IsLtxFile}
use Rattle.ltx_format.specs.Writing.{PageMap, Written, HasWritten, block_front, IsWhole, change_with}
use Rattle.ltx_format.proofs.BlockLoop.{Blocks}
use Rattle.ltx_format.proofs.LastPageLemmas.{keys-insert_last, page_blocks-insert_last}

-- ---- the header

abbrev pub no_pages : PageMap
no_pages = empty

no_entries : entries no_pages ≡ []
no_entries = nil_from_length (entries no_pages) (sym (len-entries no_pages) ∙ len-empty nat_cmp (List ℕ))

none_found : (number : ℕ) → IsSome (get no_pages number) → ⊥
none_found number some = false≢true (subst IsSome (get-empty nat_cmp number) some)

some_found : (number : ℕ) (page : List ℕ) → get no_pages number ≡ Some page → ⊥
some_found number page e = none_found number (subst IsSome (sym e) refl)

no_blocks : page_blocks no_pages ≡ []
no_blocks = ap (flat_map page_block) no_entries

pub no_numbers : keys no_pages ≡ []
no_numbers = ap (λ (es : Blocks). map (λ (e : ℕ × List ℕ). e.0) es) no_entries

pub has_begun : (w : Written) → IsHeader w.header → IsBehind (header_bytes w.header) w.check → HasWritten w empty
has_begun w header check =
    let head = header_bytes w.header in
    let all : head ≡ head ++ page_blocks no_pages =
    sym (append-nil head) ∙ ap (λ (x : List ℕ). head ++ x) (sym no_blocks) in
    record {
      header = header;
      sized = λ number page e. absurd (some_found number page e);
      bytes = λ number page e. absurd (some_found number page e);
      numbered = λ number some. absurd (none_found number some);
      up_to = λ number some. absurd (none_found number some);
      check = subst (λ (bytes : List ℕ). IsBehind bytes w.check) all check;
    }

-- ---- a page

same_some : (a b : List ℕ) → Some a ≡ Some b → a ≡ b
same_some a b e = cc

module _ (m : PageMap) (k : ℕ) (v : List ℕ) (n : ℕ) (P : Option (List ℕ) → Type 0) where
  chosen : (b : Bool) → n == k ≡ b → get (insert m k v) n ≡ cond b (Some v) (get m n)
  chosen b is = get-insert nat_cmp_total m k v n ∙ ap (λ (b : Bool). cond b (Some v) (get m n)) (unsigned_tied n k ∙ is)

  -- what is found after a page was put is that page, or was found before
  found_then : (n ≡ k → P (Some v)) → P (get m n) → P (get (insert m k v) n)
  found_then here there =
      elim (cases_eq n k) [
        | inl same ↦ subst P (sym (chosen true (eq-eqb n k same))) (here same)
        | inr other ↦ subst P (sym (chosen false (ne_eqb n k other))) there
      ]

abbrev AreBytes : List ℕ → Type 0
AreBytes page = (k : ℕ) → slice_index page k < 2 ^ 8

module _ (old : Written) (k : ℕ) (v : List ℕ) (m : PageMap) (rises : old.last < k) (has : HasWritten old m) where
  all_below : (n : ℕ) → IsSome (get m n) → n < k
  all_below n some = let most = has.up_to n some in omega (arith, most, rises)

  pub last_block : page_blocks (insert m k v) ≡ page_blocks m ++ block_front k ++ v
  last_block = page_blocks-insert_last m k v all_below ∙ sym (append_assoc (page_blocks m) (block_front k) v)

  pub numbers_gain : keys (insert m k v) ≡ keys m ++ k ∷ []
  numbers_gain = keys-insert_last m k v all_below

  -- the writer after the page, under the header of before
  after_page : (last check : ℕ) → last ≡ k → IsStored old.header k → length v ≡ old.header.size → AreBytes v
      → IsBehind ((header_bytes old.header ++ page_blocks m) ++ page_block (k, v)) check
      → HasWritten (record { header = old.header; last = last; check = check }) (insert m k v)
  after_page last check is_last stored sized bytes behind =
      let head = header_bytes old.header in
      let all : head ++ page_blocks m ++ page_block (k, v) ≡ head ++ page_blocks (insert m k v) =
      append_assoc head (page_blocks m) (page_block (k, v))
      ∙ ap (λ (x : List ℕ). head ++ x) (sym (page_blocks-insert_last m k v all_below)) in
      record {
        header = has.header;
        sized = λ n x. found_then m k v n (λ o. o ≡ Some x → length x ≡ old.header.size)
            (λ same e. ap length (sym (same_some v x e)) ∙ sized) (has.sized n x);
        bytes = λ n x. found_then m k v n (λ o. o ≡ Some x → AreBytes x)
            (λ same e. subst AreBytes (same_some v x e) bytes) (has.bytes n x);
        numbered = λ n. found_then m k v n (λ o. IsSome o → IsStored old.header n)
            (λ same some. subst (IsStored old.header) (sym same) stored) (has.numbered n);
        up_to = λ n. found_then m k v n (λ o. IsSome o → n ≤ last) (λ same some. omega (arith, same, is_last))
            (λ some. let most = has.up_to n some in omega (arith, most, is_last, rises));
        check = subst (λ (bytes : List ℕ). IsBehind bytes check) all behind;
      }

  pub has_gained : (new : Written) → new.header ≡ old.header → new.last ≡ k
      → IsStored old.header k → length v ≡ old.header.size → AreBytes v
      → IsBehind ((header_bytes old.header ++ page_blocks m) ++ page_block (k, v)) new.check
      → HasWritten new (insert m k v)
  has_gained new header last stored sized bytes behind =
      let under : LtxHeader → Written = λ h. record { header = h; last = new.last; check = new.check } in
      subst (λ (h : LtxHeader). HasWritten (under h) (insert m k v)) (sym header)
      (after_page new.last new.check last stored sized bytes behind)

-- ---- the end

module _ (w : Written) (m : PageMap) (has : HasWritten w m) (whole : IsWhole w.header m) where
  are_pages : ArePages w.header m
  are_pages = record { sized = has.sized; bytes = has.bytes; numbered = has.numbered; whole = whole }

  -- `end` is what stands between the blocks and the sum
  pub has_ended : (end sum_bytes : List ℕ)
      → replicate 6 0 ++ index_part w.header.index (keys m) ++ replicate 8 0 ≡ end
      → sum_bytes ≡ big_bytes 8 (file_sum ((header_bytes w.header ++ page_blocks m) ++ end))
      → IsLtxFile (header_bytes w.header ++ page_blocks m ++ (end ++ sum_bytes)) w.header (change_with w.header m)
  has_ended end sum_bytes is_end is_sum =
      let front = header_bytes w.header ++ page_blocks m in
      let index = index_part w.header.index (keys m) in
      let summed : summed_bytes w.header m ≡ front ++ end =
      append_assoc (front ++ replicate 6 0) index (replicate 8 0)
      ∙ append_assoc front (replicate 6 0) (index ++ replicate 8 0)
      ∙ ap (λ (x : List ℕ). front ++ x) (sym (append_assoc (replicate 6 0) index (replicate 8 0)) ∙ is_end) in
      record {
        header = has.header;
        same_size = refl;
        same_commit = refl;
        pages = are_pages;
        spelled = sym (append_assoc front end sum_bytes)
            ∙ ap (λ (x : List ℕ). front ++ end ++ x) is_sum
            ∙ ap (λ (x : List ℕ). x ++ big_bytes 8 (file_sum x)) (sym summed);
      }
