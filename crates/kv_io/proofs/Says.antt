-- What a reader's steps say of the input, and how steps are joined.
use Rattle.std.proofs.Common.{◌≡◌, ℕ, ◌+◌, ◌-◌, ◌<◌, ◌≤◌, ◌⊎◌, inl, inr, Bool, true, false, Option, Some, None, Ok, Err, Result, List, [], ◌∷◌, ◌++◌, take, drop, length, sym, ◌∙◌, ap, subst, refl, append_assoc, arith}
use Rattle.std.specs.Prelude.{IfSome}
use Rattle.std.proofs.lemmas.Bool.{false≢true}
use Rattle.std.proofs.Math.Seq.{drop-length}
use Rattle.std.proofs.lemmas.List.{append-nil, length-append, length-take-le, take_rest}
use Rattle.kv_io.specs.Outside.{Takes}
use Rattle.kv_io.specs.Framing.{Split, Ending, End, Cut, TooLong, Cutting, at_once, and_first, behind_command, split_of, framed, is_full_stop, ending_of}
use Rattle.kv_io.specs.Lines.{Ahead, cut_within, cut_left, IsTooLong, IsOpen, IsNext, IsNextWhole, SawEnd, IsNeeded, Says, Tells}
use Rattle.kv_io.specs.Reading.{HasCommand, IsLast, Gives, ReadsPiece, Grew, Grows, ahead_of, given, answer_of, stop_answer}
use Rattle.kv_io.specs.Limits.{command_limit, input_limit, read_size}
use Rattle.kv_io.specs.declared.reading.Reading.{Reading}
use Rattle.kv_io.specs.declared.reading.Stop.{Stop}
use Rattle.kv_io.specs.declared.reading.Stop.TheVariants as S
use Rattle.kv_io.specs.declared.lines.Next.{Next}
use Rattle.kv_io.specs.declared.lines.Next.TheVariants as N
use Rattle.kv_io.proofs.Cuts.{framed-command, framed-rest, cut_within-command, cut_within-long, cut_within-read, cut_within-end, cut_within-past}
use Rattle.kv_io.proofs.Places.{split-of_last, split-closed, split-closed_stop, long-command, long-line, none-whole}

-- nothing was taken for this answer
pub tells-held : (old : Ahead) (answer : Next) (new : Ahead) → ((rest : List ℕ) → IsNext (cut_left old rest) answer (cut_left new rest)) → IsNextWhole old.bytes answer new → new.ended ≡ old.ended → (left : Option (List ℕ)) → Tells old left answer new left
tells-held old answer new next whole same None = record { told = tt }
tells-held old answer new next whole same (Some rest) = record {
  told = (
    [],
    rest,
    refl,
    refl,
    record {
      next = next rest;
      whole = subst (λ b. IsNextWhole b answer new) (sym (append-nil old.bytes)) whole;
      end = λ seen e. seen (sym same ∙ e);
      needed = inl refl;
    },
  );
}

-- too many bytes before the next end line
cut_left-long : (bytes : List ℕ) (read : ℕ) (ended : Bool) → IsTooLong bytes → (rest : List ℕ) → cut_left (record { bytes = bytes; read = read; ended = ended }) rest ≡ at_once TooLong
cut_left-long bytes read true long rest = subst (λ b. framed true b ≡ at_once TooLong) (append-nil bytes) (long true [])
cut_left-long bytes read false long rest = cut_within-long read bytes rest long

pub tells-long : (old : Ahead) → IsTooLong old.bytes → (left : Option (List ℕ)) → Tells old left N.TooLong old left
tells-long old long left = tells-held old N.TooLong old (cut_left-long old.bytes old.read old.ended long) tt refl left

-- a whole command at the front
cut_left-command : (bytes next command : List ℕ) (read : ℕ) (ended : Bool) → ((closed : Bool) (more : List ℕ) → split_of closed (bytes ++ more) ≡ behind_command command (split_of closed (next ++ more))) → length command ≤ command_limit → (rest : List ℕ) → cut_left (record { bytes = bytes; read = read; ended = ended }) rest ≡ and_first command (cut_left (record { bytes = next; read = read; ended = ended }) rest)
cut_left-command bytes next command read true e h rest =
    let at_end : split_of true bytes ≡ behind_command command (split_of true next) = simp append-nil at (e true []) in
    framed-command true bytes command next at_end h
cut_left-command bytes next command read false e h rest = cut_within-command read bytes command next rest e h

tells-command : (old : Ahead) (command next : ℕ) → HasCommand old.bytes command next → command ≤ command_limit → (left : Option (List ℕ)) → Tells old left (N.Command (take command old.bytes)) (record old { bytes = drop next old.bytes }) left
tells-command old command next has h left =
    let size : length (take command old.bytes) ≡ command = length-take-le command old.bytes (omega (arith, has.order, has.within)) in
    tells-held old (N.Command (take command old.bytes)) (record old { bytes = drop next old.bytes })
    (cut_left-command old.bytes (drop next old.bytes) (take command old.bytes) old.read old.ended has.goes_on (omega arith))
    (λ off more. ap (λ (s : Split). s.commands) (has.goes_on false more)) refl left

-- the reader after a command was given, in place of what it is equal to
told-given : (old new : Reading) (next : ℕ) (text text' : List ℕ) → text ≡ text' → new ≡ given old next → (left : Option (List ℕ)) → Tells (ahead_of old) left (N.Command text') (ahead_of (given old next)) left → Tells (ahead_of old) left (N.Command text) (ahead_of new) left
told-given old new next text text' t n left told =
    subst (λ b. Tells (ahead_of old) left (N.Command b) (ahead_of new) left) (sym t)
    (subst (λ r. Tells (ahead_of old) left (N.Command text') (ahead_of r) left) (sym n) told)

told-same : (old new : Reading) (answer : Next) → new ≡ old → (left : Option (List ℕ)) → Tells (ahead_of old) left answer (ahead_of old) left → Tells (ahead_of old) left answer (ahead_of new) left
told-same old new answer n left told = subst (λ r. Tells (ahead_of old) left answer (ahead_of r) left) (sym n) told

pub tells-nothing : (old : Ahead) → (left : Option (List ℕ)) → Tells old left N.NoMemory old left
tells-nothing old left = tells-held old N.NoMemory old (λ rest. tt) tt refl left

-- a command that stands whole at the front was given
pub gives-whole : (old : Reading) (command next : ℕ) (result : Result (List ℕ) Stop) (new : Reading) → HasCommand old.held command next → Gives old command next result new → (left : Option (List ℕ)) → Tells (ahead_of old) left (answer_of result) (ahead_of new) left
gives-whole old command next (Ok text) new has g left =
    told-given old new next text (take command old.held) g.1 g.2 left (tells-command (ahead_of old) command next has g.0 left)
gives-whole old command next (Err S.End) new has g left = absurd g
gives-whole old command next (Err S.Cut) new has g left = absurd g
gives-whole old command next (Err S.TooLong) new has g left =
    told-same old new N.TooLong g.1 left (tells-long (ahead_of old) (long-command old.held command next has g.0) left)
gives-whole old command next (Err S.ReadFault) new has g left = absurd g
gives-whole old command next (Err S.NoMemory) new has g left = told-same old new N.NoMemory g left (tells-nothing (ahead_of old) left)

-- at the end of the input: what is ahead is all
cut_left-closed : (old : Ahead) → old.ended ≡ true → (rest : List ℕ) → cut_left old rest ≡ framed true old.bytes
cut_left-closed old e rest = rw e refl

tells-stop : (old : Ahead) (line : ℕ) → IsLast old.bytes line → old.ended ≡ true → is_full_stop (drop line old.bytes) ≡ true → line ≤ command_limit → (left : Option (List ℕ)) → Tells old left (N.Command (take line old.bytes)) (record old { bytes = drop (length old.bytes) old.bytes }) left
tells-stop old line last e stop h left =
    let size : length (take line old.bytes) ≡ line = length-take-le line old.bytes last.starts.within in
    let all : split_of true old.bytes ≡ behind_command (take line old.bytes) (split_of true (drop (length old.bytes) old.bytes)) =
    split-closed_stop old.bytes line last stop ∙ ap (λ b. behind_command (take line old.bytes) (split_of true b)) (sym (drop-length old.bytes)) in
    let cut : framed true old.bytes ≡ and_first (take line old.bytes) (framed true (drop (length old.bytes) old.bytes)) =
    framed-command true old.bytes (take line old.bytes) (drop (length old.bytes) old.bytes) all (omega arith) in
    let new : Ahead = record old { bytes = drop (length old.bytes) old.bytes } in
    tells-held old (N.Command (take line old.bytes)) new
    (λ rest. cut_left-closed old e rest ∙ cut ∙ ap (and_first (take line old.bytes)) (sym (cut_left-closed new e rest)))
    (λ off. absurd (false≢true (sym off ∙ e))) refl left

-- a command that the end of the input ends was given
gives-all : (old : Reading) (result : Result (List ℕ) Stop) (new : Reading) → IsLast old.held old.line → old.ended ≡ true → is_full_stop (drop old.line old.held) ≡ true → Gives old old.line (length old.held) result new → (left : Option (List ℕ)) → Tells (ahead_of old) left (answer_of result) (ahead_of new) left
gives-all old (Ok text) new last e stop g left =
    told-given old new (length old.held) text (take old.line old.held) g.1 g.2 left (tells-stop (ahead_of old) old.line last e stop g.0 left)
gives-all old (Err S.End) new last e stop g left = absurd g
gives-all old (Err S.Cut) new last e stop g left = absurd g
gives-all old (Err S.TooLong) new last e stop g left =
    told-same old new N.TooLong g.1 left (tells-long (ahead_of old) (long-line old.held old.line last.starts g.0) left)
gives-all old (Err S.ReadFault) new last e stop g left = absurd g
gives-all old (Err S.NoMemory) new last e stop g left = told-same old new N.NoMemory g left (tells-nothing (ahead_of old) left)

pub gives-last : (old : Reading) (bytes : List ℕ) (result : Result (List ℕ) Stop) (new : Reading) → IsLast old.held old.line → old.ended ≡ true → is_full_stop (drop old.line old.held) ≡ true → bytes ≡ old.held → Gives old old.line (length bytes) result new → (left : Option (List ℕ)) → Tells (ahead_of old) left (answer_of result) (ahead_of new) left
gives-last old bytes result new last e stop same g left =
    gives-all old result new last e stop (subst (λ b. Gives old old.line (length b) result new) same g) left

-- what was asked of the last line, as its range is written
pub last-stop : (bytes held : List ℕ) (line : ℕ) (result b : Bool) → bytes ≡ held → result ≡ is_full_stop (take (length bytes - line) (drop line bytes)) → result ≡ b → is_full_stop (drop line held) ≡ b
last-stop bytes held line result b same is e =
    subst (λ x. is_full_stop (drop line x) ≡ b) same (ap is_full_stop (sym (take_rest bytes line)) ∙ sym is ∙ e)

abbrev pub ending_answer : Ending → Next
ending_answer End = N.End
ending_answer Cut = N.Cut
ending_answer TooLong = N.TooLong

is-ending : (cutting left : Cutting) (ending : Ending) → cutting ≡ at_once ending → IsNext cutting (ending_answer ending) left
is-ending cutting left End e = e
is-ending cutting left Cut e = e
is-ending cutting left TooLong e = e

ending-whole : (taken : List ℕ) (ending : Ending) (new : Ahead) → IsNextWhole taken (ending_answer ending) new
ending-whole taken End new = tt
ending-whole taken Cut new = tt
ending-whole taken TooLong new = tt

-- all of the input, whose last line is no end line
pub tells-ending : (old : Ahead) (bytes : List ℕ) (line : ℕ) (ending : Ending) → IsLast old.bytes line → old.ended ≡ true → is_full_stop (drop line old.bytes) ≡ false → bytes ≡ old.bytes → ending_of bytes ≡ ending → (left : Option (List ℕ)) → Tells old left (ending_answer ending) old left
tells-ending old bytes line ending last e stop same is left =
    let all : framed true old.bytes ≡ at_once ending = framed-rest old.bytes ending (split-closed old.bytes line last stop) (ap ending_of (sym same) ∙ is) in
    tells-held old (ending_answer ending) old (λ rest. is-ending (cut_left old rest) (cut_left old rest) ending (cut_left-closed old e rest ∙ all))
    (ending-whole old.bytes ending old) refl left

needed-read : (bytes piece : List ℕ) → IsOpen bytes → length piece ≤ read_size → IsNeeded bytes piece
needed-read bytes piece must h = inr ([], piece, refl, h, subst IsOpen (sym (append-nil bytes)) must)

needed-more : (bytes p q : List ℕ) → IsNeeded bytes p → IsNeeded (bytes ++ p) q → IsNeeded bytes (p ++ q)
needed-more bytes p q n (inl e) = subst (IsNeeded bytes) (sym (ap (λ x. p ++ x) e ∙ append-nil p)) n
needed-more bytes p q n (inr (front, last, e, h, must)) =
    inr (p ++ front, last, ap (λ x. p ++ x) e ∙ sym (append_assoc p front last), h, subst IsOpen (append_assoc bytes p front) must)

both-nil : (piece rest : List ℕ) → [] ≡ piece ++ rest → (piece ≡ []) × (rest ≡ [])
both-nil [] rest e = (refl, sym e)
both-nil (x ∷ piece) rest e = cc

-- a piece was read
pub grows-piece : (old : Ahead) (piece bytes : List ℕ) (read : ℕ) (left left' : Option (List ℕ)) → IsOpen old.bytes → length piece ≤ read_size → old.ended ≡ false → old.read + length piece ≤ input_limit → bytes ≡ old.bytes ++ piece → read ≡ old.read + length piece → Takes left piece left' → Grows old left (record { bytes = bytes; read = read; ended = old.ended }) left'
grows-piece old piece bytes read None left' must size off h b r t = record { told = tt }
grows-piece old piece bytes read (Some input) left' must size off h b r t =
    let (rest, new, whole) = t.told in
    record {
      told = (
        piece,
        rest,
        whole,
        new,
        record {
          cut = rw off (cut_within-read old.read old.bytes piece rest h ∙ ap (λ n. cut_within n (old.bytes ++ piece) rest) (sym r) ∙ ap (λ x. cut_within read x rest) (sym b));
          bytes = b;
          going = λ off. off;
          end = λ seen on. absurd (false≢true (sym off ∙ on));
          needed = needed-read old.bytes piece must size;
        },
      );
    }

no-piece : (piece : List ℕ) → length piece ≡ 0 → piece ≡ []
no-piece [] e = refl
no-piece (x ∷ piece) e = absurd (omega arith)

-- the end of the input was read
pub grows-end : (old : Ahead) (piece bytes : List ℕ) (left left' : Option (List ℕ)) → old.ended ≡ false → old.read ≤ input_limit → length piece ≡ 0 → bytes ≡ old.bytes ++ piece → IfSome left (λ input. input ≡ []) → Takes left piece left' → Grows old left (record { bytes = bytes; read = old.read; ended = true }) left'
grows-end old piece bytes None left' off h n b none t = record { told = tt }
grows-end old piece bytes (Some input) left' off h n b none t =
    let (rest, new, whole) = t.told in
    let no : piece ≡ [] = no-piece piece n in
    let nil : rest ≡ [] = sym (ap (λ p. p ++ rest) no) ∙ sym whole ∙ none in
    let same : bytes ≡ old.bytes = b ∙ ap (λ p. old.bytes ++ p) no ∙ append-nil old.bytes in
    record {
      told = (
        piece,
        rest,
        whole,
        new,
        record {
          cut = rw off (ap (cut_within old.read old.bytes) (sym whole ∙ none) ∙ cut_within-end old.read old.bytes h ∙ ap (framed true) (sym same));
          bytes = b;
          going = λ on. absurd (false≢true (sym on));
          end = λ seen on. nil;
          needed = inl no;
        },
      );
    }

-- nothing was given for a read: a fault
tells-fault : (old : Ahead) (line : ℕ) (left left' : Option (List ℕ)) → IsLast old.bytes line → left' ≡ left → Tells old left N.ReadFault old left'
tells-fault old line left left' last same =
    subst (Tells old left N.ReadFault old) (sym same) (tells-held old N.ReadFault old (λ rest. tt) (none-whole old.bytes line last) refl left)

-- a piece was taken, but there is no room for it
tells-no_room : (old : Ahead) (piece : List ℕ) (left left' : Option (List ℕ)) → IsOpen old.bytes → length piece ≤ read_size → old.ended ≡ false → Takes left piece left' → Tells old left N.NoMemory old left'
tells-no_room old piece None left' must size off t = record { told = tt }
tells-no_room old piece (Some input) left' must size off t =
    let (rest, new, whole) = t.told in
    record {
      told = (
        piece,
        rest,
        whole,
        new,
        record {
          next = tt;
          whole = tt;
          end = λ seen on. absurd (false≢true (sym off ∙ on));
          needed = needed-read old.bytes piece must size;
        },
      );
    }

-- a byte was taken behind the limit of an input
tells-past : (old : Ahead) (line : ℕ) (piece : List ℕ) (left left' : Option (List ℕ)) → IsLast old.bytes line → IsOpen old.bytes → length piece ≤ read_size → old.ended ≡ false → old.read ≡ input_limit → 0 < length piece → Takes left piece left' → Tells old left N.TooLong old left'
tells-past old line piece None left' last must size off limit some t = record { told = tt }
tells-past old line piece (Some input) left' last must size off limit some t =
    let (rest, new, whole) = t.told in
    record {
      told = (
        piece,
        rest,
        whole,
        new,
        record {
          next = rw off (cut_within-past old.read old.bytes (piece ++ rest) limit (omega (arith, length-append piece rest)) (split-of_last old.bytes line last));
          whole = tt;
          end = λ seen on. absurd (false≢true (sym off ∙ on));
          needed = needed-read old.bytes piece must size;
        },
      );
    }

told-bytes : (old : Ahead) (bytes : List ℕ) (left : Option (List ℕ)) (answer : Next) (left' : Option (List ℕ)) → bytes ≡ old.bytes → Tells old left answer old left' → Tells old left answer (record old { bytes = bytes }) left'
told-bytes old bytes left answer left' same told = subst (λ b. Tells old left answer (record old { bytes = b }) left') (sym same) told

-- a read that stops a reader
pub tells-read : (old : Ahead) (line : ℕ) (bytes : List ℕ) (left : Option (List ℕ)) (stop : Stop) (left' : Option (List ℕ)) → IsLast old.bytes line → IsOpen old.bytes → old.ended ≡ false → old.read ≤ input_limit → ReadsPiece old.bytes (input_limit - old.read) left (Err stop) bytes left' → Tells old left (stop_answer stop) (record old { bytes = bytes }) left'
tells-read old line bytes left S.End left' last must off h r = absurd r
tells-read old line bytes left S.Cut left' last must off h r = absurd r
tells-read old line bytes left S.TooLong left' last must off h r =
    let (room, same, (piece, some, size, t)) = r in
    let limit : old.read ≡ input_limit = omega arith in
    told-bytes old bytes left N.TooLong left' same (tells-past old line piece left left' last must size off limit some t)
tells-read old line bytes left S.ReadFault left' last must off h r =
    told-bytes old bytes left N.ReadFault left' r.0 (tells-fault old line left left' last r.1)
tells-read old line bytes left S.NoMemory left' last must off h r =
    let (same, (piece, size, t)) = r in
    told-bytes old bytes left N.NoMemory left' same (tells-no_room old piece left left' must size off t)

-- nothing was read yet
pub grows-none : (at : Ahead) (left : Option (List ℕ)) → Grows at left at left
grows-none at None = record { told = tt }
grows-none at (Some rest) = record {
  told = (
    [],
    rest,
    refl,
    refl,
    record {
      cut = refl;
      bytes = sym (append-nil at.bytes);
      going = λ off. off;
      end = λ seen. seen;
      needed = inl refl;
    },
  );
}

grew-cut : (old : Ahead) (p q rest : List ℕ) (mid : Ahead) → Grew old p (q ++ rest) mid → cut_left old ((p ++ q) ++ rest) ≡ cut_left mid (q ++ rest)
grew-cut old p q rest mid grew = ap (cut_left old) (append_assoc p q rest) ∙ grew.cut

grew-end : (old : Ahead) (p q rest : List ℕ) (mid : Ahead) → Grew old p (q ++ rest) mid → SawEnd old ((p ++ q) ++ rest) → SawEnd mid (q ++ rest)
grew-end old p q rest mid grew seen = grew.end (subst (SawEnd old) (append_assoc p q rest) seen)

grew-bytes : (old : Ahead) (p q rest : List ℕ) (mid : Ahead) → Grew old p (q ++ rest) mid → mid.bytes ++ q ≡ old.bytes ++ (p ++ q)
grew-bytes old p q rest mid grew = ap (λ b. b ++ q) grew.bytes ∙ append_assoc old.bytes p q

grew-needed : (old : Ahead) (p q rest : List ℕ) (mid : Ahead) → Grew old p (q ++ rest) mid → IsNeeded mid.bytes q → IsNeeded old.bytes (p ++ q)
grew-needed old p q rest mid grew n = needed-more old.bytes p q grew.needed (subst (λ b. IsNeeded b q) grew.bytes n)

grew-more : (old : Ahead) (p q rest : List ℕ) (mid new : Ahead) → Grew old p (q ++ rest) mid → Grew mid q rest new → Grew old (p ++ q) rest new
grew-more old p q rest mid new a b = record {
  cut = grew-cut old p q rest mid a ∙ b.cut;
  bytes = b.bytes ∙ grew-bytes old p q rest mid a;
  going = λ off. a.going (b.going off);
  end = λ seen. b.end (grew-end old p q rest mid a seen);
  needed = grew-needed old p q rest mid a b.needed;
}

says-more : (old : Ahead) (p q rest : List ℕ) (mid : Ahead) (answer : Next) (new : Ahead) → Grew old p (q ++ rest) mid → Says mid q rest answer new → Says old (p ++ q) rest answer new
says-more old p q rest mid answer new a s = record {
  next = subst (λ c. IsNext c answer (cut_left new rest)) (sym (grew-cut old p q rest mid a)) s.next;
  whole = subst (λ b. IsNextWhole b answer new) (grew-bytes old p q rest mid a) s.whole;
  end = λ seen. s.end (grew-end old p q rest mid a seen);
  needed = grew-needed old p q rest mid a s.needed;
}

pub grows-more : (old : Ahead) (left : Option (List ℕ)) (mid : Ahead) (left' : Option (List ℕ)) (new : Ahead) (left'' : Option (List ℕ)) → Grows old left mid left' → Grows mid left' new left'' → Grows old left new left''
grows-more old None mid left' new left'' a b = record { told = tt }
grows-more old (Some input) mid left' new left'' a b =
    let (p, rest, whole, is, grew) = a.told in
    let (q, rest', whole', is', grew') = (subst (λ l. Grows mid l new left'') is b).told in
    record {
      told = (
        p ++ q,
        rest',
        whole ∙ ap (λ r. p ++ r) whole' ∙ sym (append_assoc p q rest'),
        is',
        grew-more old p q rest' mid new (subst (λ r. Grew old p r mid) whole' grew) grew',
      );
    }

pub grows-tells : (old : Ahead) (left : Option (List ℕ)) (mid : Ahead) (left' : Option (List ℕ)) (answer : Next) (new : Ahead) (left'' : Option (List ℕ)) → Grows old left mid left' → Tells mid left' answer new left'' → Tells old left answer new left''
grows-tells old None mid left' answer new left'' a b = record { told = tt }
grows-tells old (Some input) mid left' answer new left'' a b =
    let (p, rest, whole, is, grew) = a.told in
    let (q, rest', whole', is', says) = (subst (λ l. Tells mid l answer new left'') is b).told in
    record {
      told = (
        p ++ q,
        rest',
        whole ∙ ap (λ r. p ++ r) whole' ∙ sym (append_assoc p q rest'),
        is',
        says-more old p q rest' mid answer new (subst (λ r. Grew old p r mid) whole' grew) says,
      );
    }

-- a read is needed where the reader's first bytes are open
pub needed-now : {P : Type 0} (old now : Ahead) → (P × (now ≡ old)) ⊎ ((old.ended ≡ false) × IsOpen old.bytes) → now.ended ≡ false → IsOpen now.bytes → (old.ended ≡ false) × IsOpen old.bytes
needed-now old now (inl same) off must =
    (subst (λ (a : Ahead). a.ended ≡ false) same.1 off, subst (λ (a : Ahead). IsOpen a.bytes) same.1 must)
needed-now old now (inr before) off must = before

-- nothing is read where what is held is too long
pub long-stays : {P Q : Type 0} (bytes held : List ℕ) → held ≡ bytes → P ⊎ (Q × IsOpen held) → IsTooLong bytes → P
long-stays bytes held e (inl same) long = same
long-stays bytes held e (inr must) long = absurd (must.1.fits (subst IsTooLong (sym e) long))
