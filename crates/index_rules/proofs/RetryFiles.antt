-- An accepted request on a file that is asked again is already so.
use Rattle.index_rules.proofs.Words.{◌≡◌, ℕ, true, false, not, ◌&&◌, ◌==◌, inl, refl, ap, ◌∙◌, Option, Some, None, length, option_map}
use Rattle.index_rules.proofs.Words.{option_and_then, nat_lt, option_map_or, eq-eqb, read_digest, sha256, BadToken, NotOffice, BadFileName}
use Rattle.index_rules.proofs.Words.{BadText, BadDigest, TooLarge, DigestMismatch, NoProject, NotOwner, NoFile, FileBanned, Request, Upload}
use Rattle.index_rules.proofs.Words.{Delete, BanFile, Bytes, or_empty, read_file, name_key, AlreadySo, exceeds_quota, is_other_file}
use Rattle.index_rules.proofs.Words.{is_undeleted, last_moment, History, first_upload_after, is_banned_after, is_undeleted_after}
use Rattle.index_rules.proofs.Words.{requires_after, name_after, file_after, file_of_upload, IsLegal, facts_after, verdict_after}
use Rattle.index_rules.proofs.Accepted.{accepted}
use Rattle.index_rules.proofs.KeyLemmas.{same-refl}
use Rattle.index_rules.proofs.PastReading.{read_itself, read_key, at_key}
use Rattle.index_rules.proofs.BindLemmas.{known_upload, declares_body}
use Rattle.index_rules.proofs.RetryWords.{of, twice, after, already, held_same, known_same}

no_other : (digest : Bytes) (size : ℕ) (f requires : Bytes)
    → is_other_file (Some digest) size (Some (file_of_upload f requires true (digest, size))) ≡ false
no_other digest size f requires = (λ i. not (same-refl digest i && (size == size))) ∙ ap not (eq-eqb size size refl)

deleted : (f requires : Bytes) (first : Option (Bytes × ℕ)) → not (is_undeleted (option_map (file_of_upload f requires false) first)) ≡ true
deleted f requires None = refl
deleted f requires (Some first) = refl

module _ (h : History) (actor token : Bytes) (at again : ℕ) (valid : nat_lt last_moment again ≡ false) where
  abbrev IsRepeated : Request → Type 0
  IsRepeated r = IsLegal (after h actor token at again r)
      → verdict_after (after h actor token at again r) (twice h actor token at again r) ≡ AlreadySo

  pub upload_again : (file declared body requires : Bytes) → IsRepeated (Upload file declared body requires)
  upload_again file declared body requires legal =
      let r : Request = Upload file declared body requires in
      let then : History = after h actor token at again r in
      let all = accepted (of h actor token at again r) (facts_after h (of h actor token at again r)) legal.1 in
      let reads : read_file file ≡ Some file = read_itself file (all.not_refused BadFileName refl) in
      let known : first_upload_after then file ≡ Some (sha256 body, length body) =
      known_upload then legal file (sha256 body, length body) (inl (reads, refl)) in
      let digest : read_digest declared ≡ Some (sha256 body) = declares_body h at token r legal.1 in
      let there : is_undeleted_after then file ≡ true = at_key (read_file file) file reads true (is_undeleted_after h file) in
      let found : option_and_then (file_after then) (read_file file)
      ≡ Some (file_of_upload file (requires_after then file) true (sha256 body, length body)) =
      ap (option_and_then (file_after then)) reads
      ∙ (λ i. option_map (file_of_upload file (requires_after then file) (there i)) (known i)) in
      already h actor token at again r (
        valid,
        (
          all.not_refused BadToken refl,
          (
            all.not_refused BadFileName refl,
            (
              all.not_refused BadText refl,
              (
                all.not_refused BadDigest refl,
                (
                  all.not_refused TooLarge refl,
                  (
                    all.not_refused DigestMismatch refl,
                    (
                      ap not (held_same h actor token at again r (λ n. refl) (name_key r)) ∙ all.not_refused NoProject refl,
                      (
                        all.not_refused NotOwner refl,
                        (
                          (λ i. is_other_file (digest i) (length body) (found i))
                              ∙ no_other (sha256 body) (length body) file (requires_after then file),
                          (
                            all.not_refused FileBanned refl,
                            (
                              ap (λ o. not (is_undeleted o) && exceeds_quota (length body) (option_and_then (name_after then) (name_key r)))
                                  found,
                              tt,
                            ),
                          ),
                        ),
                      ),
                    ),
                  ),
                ),
              ),
            ),
          ),
        ),
      )
      (ap is_undeleted found)

  pub delete_again : (file : Bytes) → IsRepeated (Delete file)
  delete_again file legal =
      let r : Request = Delete file in
      let then : History = after h actor token at again r in
      let all = accepted (of h actor token at again r) (facts_after h (of h actor token at again r)) legal.1 in
      let f : Bytes = or_empty (read_file file) in
      let reads : read_file file ≡ Some f = read_key (read_file file) (all.not_refused BadFileName refl) in
      already h actor token at again r (
        valid,
        (
          all.not_refused BadToken refl,
          (
            all.not_refused BadFileName refl,
            (
              ap not (held_same h actor token at again r (λ n. refl) (name_key r)) ∙ all.not_refused NoProject refl,
              (
                all.not_refused NotOwner refl,
                (
                  known_same h actor token at again r (λ f. refl) (read_file file) ∙ all.not_refused NoFile refl,
                  tt,
                ),
              ),
            ),
          ),
        ),
      )
      (ap (λ read. not (is_undeleted (option_and_then (file_after then) read))) reads
      ∙ ap (λ b. not (is_undeleted (option_map (file_of_upload f (requires_after h f) b) (first_upload_after h f))))
      (at_key (read_file file) f reads false (is_undeleted_after h f))
      ∙ deleted f (requires_after h f) (first_upload_after h f))

  pub ban_again : (file : Bytes) → IsRepeated (BanFile file)
  ban_again file legal =
      let r : Request = BanFile file in
      let all = accepted (of h actor token at again r) (facts_after h (of h actor token at again r)) legal.1 in
      let f : Bytes = or_empty (read_file file) in
      let reads : read_file file ≡ Some f = read_key (read_file file) (all.not_refused BadFileName refl) in
      already h actor token at again r (
        valid,
        (
          all.not_refused BadToken refl,
          (
            all.not_refused NotOffice refl,
            (
              all.not_refused BadFileName refl,
              (
                known_same h actor token at again r (λ f. refl) (read_file file) ∙ all.not_refused NoFile refl,
                tt,
              ),
            ),
          ),
        ),
      )
      (ap (λ read. option_map_or (is_banned_after (after h actor token at again r)) read false) reads
      ∙ at_key (read_file file) f reads true (is_banned_after h f))
