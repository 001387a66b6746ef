-- Steps of a status and of the section of an interim response.
use Rattle.std.proofs.Common.{◌≡◌, ◌≤◌, ◌+◌, ◌<◌, ◌⊎◌, ℕ, Option, Some, List, [], ◌∷◌, ◌++◌, length, take, get_or, refl, sym, ap, subst, ◌∙◌, inl, inr, arith}
use Rattle.std.proofs.Math.Seq.{take-length}
use Rattle.std.proofs.lemmas.Bool.{cases_lt}
use Rattle.bh_spec.specs.declared.Form.{Form}
use Rattle.bh_spec.specs.declared.Part.{Part}
use Rattle.bh_spec.specs.declared.Part.TheVariants as parts
use Rattle.bh_spec.specs.declared.Width.{Width}
use Rattle.bh_spec.specs.Bounds.{Bounds, IsWithin, no_bounds}
use Rattle.bh_spec.specs.Integers.{byte_count, SomeBegins}
use Rattle.bh_spec.specs.Messages.{Field}
use Rattle.bh_spec.specs.Texts.{Text, bytes_of}
use Rattle.bh_spec.specs.Pieces.{IsRefused}
use Rattle.bh_spec.proofs.Within.{within_some, some_within}
use Rattle.bh_model.specs.declared.field.Place.TheVariants.{Header}
use Rattle.bh_varint.specs.Step.{IsWhole, IsUnfinished, GoesOn}
use Rattle.bh_fields.specs.Sections.{SectionOf}
use Rattle.bh_fields.specs.Middle.{SectionView, Rest as section_rest}
use Rattle.bh_fields.specs.Readers.{IsWanted, IsOnTheWay, IsBehind}
use Rattle.bh_spec.specs.declared.PieceStep.TheVariants as sections
use Rattle.bh_control.specs.Numbers.{numbers}
use Rattle.bh_spec.specs.Items.{of_response, interim_response}
use Rattle.bh_spec.specs.Readers.{Follows}
use Rattle.bh_spec.proofs.Readers.{reader_goes_on, reader_dead, reader_limit}
use Rattle.bh_push.specs.declared.course.Course.{Course}
use Rattle.bh_push.specs.declared.course.Stage.{Stage}
use Rattle.bh_push.specs.declared.course.Stage.TheVariants as stages
use Rattle.bh_push.specs.declared.course.Stepped.TheVariants as stepped
use Rattle.bh_push.specs.Completing.{AfterStart, InterimRest, ResponseRest}
use Rattle.bh_push.specs.Decoders.{At, Rest, in_status, in_interim, before_header}
use Rattle.bh_push.specs.Standing.{Comes, IsLeastStatus}
use Rattle.bh_push.specs.Courses.{IsSilent, Halts, head_of, at_by, place_of, zeros_of, IsCounted, IsCourse, IsOpenBy, IsOpen, Says, FollowsInterim, FollowsFinal}
use Rattle.bh_push.proofs.Courses.{SectionShows, stays_in, halts_at, halts_here, refused_on, way_prompt, same_lines_shown, whole_lines, taken_of, dead_of, limit_of, dead_in, limit_in, keeps, open_by, moves_at, section_on, whole_some, same_lines, free_lines}
use Rattle.bh_push.proofs.Requesting.{take_one, counted_nil, least_few}
use Rattle.bh_push.proofs.Requests.{after_start, response_some, interim_whole}
use Rattle.bh_push.proofs.Sections.{section_reader, both}
use Rattle.bh_push.proofs.StatusBytes.{in_numbers, interim_some, status_more, status_interim, status_final, status_dead, status_limit}

-- ---- the least status

pub least_is : (L : Bounds) (before most least : ℕ) → L.interims ≡ Some most → (before < most → least ≡ 100) → (most ≤ before → least ≡ 200) → IsLeastStatus L before least
least_is L before most least e some none = at (cases_lt before most)
  where
    at : (before < most) ⊎ (most ≤ before) → IsLeastStatus L before least
    at (inl lt) = inl (some lt, some_within L.interims most (before + 1) e (omega (arith, lt)))
    at (inr ge) = inr (none ge, λ few. omega (arith, ge, within_some L.interims most (before + 1) e few))

least_once : (L : Bounds) (before m n : ℕ) → IsLeastStatus L before m → IsLeastStatus L before n → m ≡ n
least_once L before m n (inl a) (inl b) = a.0 ∙ sym b.0
least_once L before m n (inl a) (inr b) = absurd (b.1 a.1)
least_once L before m n (inr a) (inl b) = absurd (a.1 b.1)
least_once L before m n (inr a) (inr b) = a.0 ∙ sym b.0

-- ---- a byte of a status

pub status_on : (c d : Course) (form : Form) (before least : ℕ) (piece : List ℕ) → c.stage ≡ stages.Status form before → d.stage ≡ stages.Status form before → IsOpen c → 0 < length piece
    → IsLeastStatus c.limits before least → d.number ≡ c.number ++ get_or piece 0 0 ∷ [] → GoesOn (numbers least 599) (c.number ++ get_or piece 0 0 ∷ []) → d.limits ≡ c.limits
    → d.control.limits ≡ c.control.limits → d.section ≡ c.section → Says c piece (stepped.On 1) d
status_on c d form before least piece e f o some is kept' g limits control section =
    let s = open_by c (stages.Status form before) e o in
    let b = s.1 least is in
    let m : Comes c.limits (in_status form before c.number) (get_or piece 0 0 ∷ []) [] (in_status form before (c.number ++ get_or piece 0 0 ∷ [])) =
    status_more c.limits form before least c.number (get_or piece 0 0) s.0 is b.unfinished g.begins in
    taken_of c d piece 1 [] (stages.Status form before) (stages.Status form before) e f (omega arith) (omega (arith, some))
    (subst (λ (x : List ℕ). Comes c.limits (in_status form before c.number) x [] (in_status form before d.number)) (sym (take_one piece some))
    (subst (λ (x : List ℕ). Comes c.limits (in_status form before c.number) (get_or piece 0 0 ∷ []) [] (in_status form before x)) (sym kept') m))
    limits (keeps c d o.course limits control (ap (λ (x : SectionView). x.limits) section)) (
      subst (λ (L : Bounds). IsWithin L.interims before) (sym limits) s.0,
      λ other also. subst (IsCounted (numbers other 599)) (sym kept')
          (subst (λ (n : ℕ). IsCounted (numbers n 599) (c.number ++ get_or piece 0 0 ∷ []))
          (least_once c.limits before least other is (subst (λ (L : Bounds). IsLeastStatus L before other) limits also))
          (record { live = g.begins; unfinished = g.unfinished })),
    )
    (omega arith)
    (record { head = refl; lines = inr (λ x. x, same_lines_shown c d section); right = tt })

pub status_low : (L : Bounds) (before least n : ℕ) → IsLeastStatus L before least → least ≤ n → 100 ≤ n
status_low L before least n (inl e) h = omega (arith, e.0, h)
status_low L before least n (inr e) h = omega (arith, e.0, h)

pub status_few : (L : Bounds) (before least n : ℕ) → IsLeastStatus L before least → least ≤ n → n < 200 → IsWithin L.interims (before + 1)
status_few L before least n (inl e) h lt = e.1
status_few L before least n (inr e) h lt = absurd (omega (arith, e.0, h, lt))

pub status_range : (least n : ℕ) (w : Width) (bytes : List ℕ) → IsWhole (numbers least 599) bytes n w → (least ≤ n) × (n ≤ 599)
status_range least n w bytes h = in_numbers least 599 (byte_count w) n h.allowed

-- the last byte of a status leads to a section
pub status_end : (c d : Course) (form : Form) (before least n : ℕ) (w : Width) (piece : List ℕ) → c.stage ≡ stages.Status form before → IsOpen c → 0 < length piece
    → IsLeastStatus c.limits before least → IsWhole (numbers least 599) (c.number ++ get_or piece 0 0 ∷ []) n w → n ≤ 599 → 100 ≤ n → (n < 200 → IsWithin c.limits.interims (before + 1))
    → IsOpen d → d.limits ≡ c.limits → (n < 200 → FollowsInterim form before n d) → (200 ≤ n → FollowsFinal form n d) → IsSilent c d → Says c piece (stepped.On 1) d
status_end c d form before least n w piece e o some is whole high low few stays limits interim last same =
    let s = open_by c (stages.Status form before) e o in
    let b = s.1 least is in
    at s.0 b.unfinished (cases_lt n 200)
  where
    byte : ℕ
    byte = get_or piece 0 0

    ends : Comes c.limits (in_status form before c.number) (byte ∷ []) [] (place_of d) → zeros_of d.stage ≡ 0 → Says c piece (stepped.On 1) d
    ends m z = taken_of c d piece 1 [] (stages.Status form before) d.stage e refl (omega arith) (omega (arith, some))
        (subst (λ (x : List ℕ). Comes c.limits (in_status form before c.number) x [] (place_of d)) (sym (take_one piece some)) m)
        limits stays.course stays.at (omega (arith, z))
        (record { head = same.head; lines = inr (λ x. x, same_lines_shown c d same.section); right = tt })

    at : IsWithin c.limits.interims before → IsUnfinished c.number → (n < 200) ⊎ (200 ≤ n) → Says c piece (stepped.On 1) d
    at within un (inl lt) =
        let i = interim_some c.limits form before n (few lt) in
        ends (moves_at c.limits (in_status form before c.number) (λ K. InterimRest K form before n (SectionOf K form Header)) d (byte ∷ []) []
        (record {
          within = status_interim c.limits form before c.number byte n least w (few lt) un whole low (omega (arith, lt));
          anyway = status_interim no_bounds form before c.number byte n least w tt un whole low (omega (arith, lt));
          goes_on = record { text = i.1; after = bytes_of i.1; spelled = (i.0, i.2); begins = refl };
        })
        (interim lt)) (interim lt).zeros
    at within un (inr ge) =
        let a = after_start c.limits form (of_response n) in
        ends (moves_at c.limits (in_status form before c.number) (λ K. AfterStart K form (of_response n)) d (byte ∷ []) []
        (record {
          within = status_final c.limits form before c.number byte n least w within un whole ge high;
          anyway = status_final no_bounds form before c.number byte n least w tt un whole ge high;
          goes_on = record { text = a.1; after = bytes_of a.1; spelled = (a.0, a.2); begins = refl };
        })
        (last ge)) (last ge).zeros

pub status_refused : (c d : Course) (form : Form) (before least : ℕ) (piece : List ℕ) → c.stage ≡ stages.Status form before → d.stage ≡ stages.Status form before → IsOpen c → d.limits ≡ c.limits
    → d.control.limits ≡ c.control.limits → d.section ≡ c.section → d.status ≡ c.status → 0 < length piece → IsLeastStatus c.limits before least
    → (SomeBegins (numbers 100 599) (c.number ++ get_or piece 0 0 ∷ []) → ⊥) → Says c piece (stepped.Dead 0 parts.Status) d
status_refused c d form before least piece e f o limits control section status some is dead =
    let s = open_by c (stages.Status form before) e o in
    let b = s.1 least is in
    let h = status_dead c.limits form before least c.number piece some s.0 is b.unfinished b.live dead in
    dead_of c d piece 0 parts.Status (stages.Status form before) e h
    (stays_in c d (stages.Status form before) e f o limits control (ap (λ (x : SectionView). x.limits) section) refl (inr (λ x. x, same_lines_shown c d section)))
    (halts_here c d piece parts.Status (stages.Status form before) e f status tt h.refused.next)

pub status_limited : (c d : Course) (form : Form) (before least : ℕ) (piece : List ℕ) → c.stage ≡ stages.Status form before → d.stage ≡ stages.Status form before → IsOpen c → d.limits ≡ c.limits
    → d.control.limits ≡ c.control.limits → d.section ≡ c.section → d.status ≡ c.status → 0 < length piece → IsLeastStatus c.limits before least
    → (SomeBegins (numbers least 599) (c.number ++ get_or piece 0 0 ∷ []) → ⊥) → SomeBegins (numbers 100 599) (c.number ++ get_or piece 0 0 ∷ []) → Says c piece (stepped.Limit 0 parts.Status) d
status_limited c d form before least piece e f o limits control section status some is dead alive =
    let s = open_by c (stages.Status form before) e o in
    let b = s.1 least is in
    let h = status_limit c.limits form before least c.number piece some s.0 is b.unfinished b.live dead alive in
    limit_of c d piece 0 parts.Status (stages.Status form before) e h
    (stays_in c d (stages.Status form before) e f o limits control (ap (λ (x : SectionView). x.limits) section) refl (inr (λ x. x, same_lines_shown c d section)))
    (halts_here c d piece parts.Status (stages.Status form before) e f status tt h.refused.next)

-- ---- the section behind it

pub before_interim_open : (c d : Course) (form : Form) (before status : ℕ) → d.stage ≡ stages.BeforeInterim form before status → IsCourse c → d.limits ≡ c.limits → d.control.limits ≡ c.control.limits
    → d.section.limits ≡ c.section.limits → IsWithin c.limits.interims (before + 1) → IsOpen d
before_interim_open c d form before status e h limits control section few = record {
  course = keeps c d h limits control section;
  at = subst (λ (x : Stage). IsOpenBy x d) (sym e) (subst (λ (L : Bounds). IsWithin L.interims (before + 1)) (sym limits) few);
}

pub before_header_open : (c d : Course) (form : Form) → d.stage ≡ stages.BeforeHeader form → IsCourse c → d.limits ≡ c.limits → d.control.limits ≡ c.control.limits
    → d.section.limits ≡ c.section.limits → IsOpen d
before_header_open c d form e h limits control section = record {
  course = keeps c d h limits control section;
  at = subst (λ (x : Stage). IsOpenBy x d) (sym e) tt;
}

-- what follows a status, word by word
pub interim_follows : (d : Course) (form : Form) (before status : ℕ) → d.stage ≡ stages.BeforeInterim form before status → FollowsInterim form before status d
interim_follows d form before status e = record {
  zeros = ap zeros_of e;
  to = λ K q t h. subst (λ (s : Stage). Rest K (at_by s d) q t) (sym e) h;
  from = λ K q t h. subst (λ (s : Stage). Rest K (at_by s d) q t) e h;
}

pub final_follows : (d : Course) (form : Form) (status : ℕ) → d.stage ≡ stages.BeforeHeader form → d.status ≡ Some status → FollowsFinal form status d
final_follows d form status e f = record {
  zeros = ap zeros_of e;
  to = λ K q t h. subst (λ (x : At). Rest K x q t) (sym place) h;
  from = λ K q t h. subst (λ (x : At). Rest K x q t) place h;
}
  where
    place : place_of d ≡ before_header form (of_response status)
    place = ap (λ (s : Stage). at_by s d) e ∙ ap (λ (x : Option ℕ). before_header form (head_of x d.control.control)) f

pub behind_interim : (L : Bounds) (form : Form) (before : ℕ) (A : List Field → Text → Type 0) → IsWithin L.interims (before + 1) → Follows A (λ i. ResponseRest L form (before + 1))
behind_interim L form before A few i t a = response_some L form (before + 1) few

pub interim_need : (c d : Course) (form : Form) (before status : ℕ) (piece : List ℕ) → c.stage ≡ stages.Interim form before status → d.stage ≡ stages.Interim form before status → IsOpen c
    → 0 < length piece → IsBehind c.section piece sections.Need d.section → SectionShows c.section piece sections.Need → d.limits ≡ c.limits → d.control.limits ≡ c.control.limits
    → Says c piece (stepped.On (length piece)) d
interim_need c d form before status piece e f o some b g limits control =
    let v = c.section in
    let w = d.section in
    let s = open_by c (stages.Interim form before status) e o in
    let few : IsWithin v.limits.interims (before + 1) = subst (λ (L : Bounds). IsWithin L.interims (before + 1)) (sym o.course.section) s.0 in
    let m : Comes v.limits (in_interim form before status v) piece [] (in_interim form before status w) =
    reader_goes_on (section_rest v.limits v) (section_rest no_bounds v) (section_rest v.limits w) (section_rest no_bounds w) (λ i. interim_response status i ∷ [])
    (λ K i. ResponseRest K form (before + 1)) v.limits piece (section_reader v s.1.left) (both v w piece b.leads) g (behind_interim v.limits form before (section_rest v.limits w) few) in
    taken_of c d piece (length piece) [] (stages.Interim form before status) (stages.Interim form before status) e f some (omega arith)
    (subst (λ (x : List ℕ). Comes c.limits (in_interim form before status v) x [] (in_interim form before status w)) (sym (take-length piece))
    (subst (λ (L : Bounds). Comes L (in_interim form before status v) piece [] (in_interim form before status w)) o.course.section m))
    limits (keeps c d o.course limits control b.limits)
    (subst (λ (L : Bounds). IsWithin L.interims (before + 1)) (sym limits) s.0, section_on v w piece s.1 b g) (omega arith)
    (record { head = refl; lines = inl tt; right = tt })

pub interim_end : (c d : Course) (form : Form) (before status : ℕ) (piece : List ℕ) (taken : ℕ) → c.stage ≡ stages.Interim form before status → d.stage ≡ stages.Status form (before + 1)
    → d.number ≡ [] → IsOpen c → SectionShows c.section piece (sections.Whole taken) → IsBehind c.section piece (sections.Whole taken) d.section → d.limits ≡ c.limits → d.control.limits ≡ c.control.limits
    → Says c piece (stepped.Interim taken status) d
interim_end c d form before status piece taken e f none o ends b limits control =
    let v = c.section in
    let w = d.section in
    let s = open_by c (stages.Interim form before status) e o in
    let few : IsWithin v.limits.interims (before + 1) = subst (λ (L : Bounds). IsWithin L.interims (before + 1)) (sym o.course.section) s.0 in
    let m : Comes v.limits (in_interim form before status v) (take taken piece) (interim_response status w.lines ∷ []) (in_status form (before + 1) []) =
    interim_whole form before status v w (take taken piece) w.lines few s.1.left b.leads.0 (same_lines v w piece taken b) (free_lines v w piece taken s.1 b) in
    taken_of c d piece taken (interim_response status w.lines ∷ []) (stages.Interim form before status) (stages.Status form (before + 1)) e f (whole_some v piece taken s.1 ends) ends.within
    (subst (λ (x : List ℕ). Comes c.limits (in_interim form before status v) (take taken piece) (interim_response status w.lines ∷ []) (in_status form (before + 1) x)) (sym none)
    (subst (λ (L : Bounds). Comes L (in_interim form before status v) (take taken piece) (interim_response status w.lines ∷ []) (in_status form (before + 1) [])) o.course.section m))
    limits (keeps c d o.course limits control b.limits) (
      subst (λ (L : Bounds). IsWithin L.interims (before + 1)) (sym limits) s.0,
      λ least is. subst (IsCounted (numbers least 599)) (sym none) (counted_nil least (least_few d.limits (before + 1) least is)),
    )
    (omega arith)
    (record { head = refl; lines = whole_lines d b.stage; right = (form, before, ap (λ (x : List ℕ). in_status form (before + 1) x) none) })

interim_halts : (c d : Course) (form : Form) (before status : ℕ) (piece : List ℕ) (offset : ℕ) (part : Part) → c.stage ≡ stages.Interim form before status → d.stage ≡ stages.Interim form before status
    → IsOpen c → d.status ≡ c.status → IsRefused (IsWanted c.section) [] piece offset part → (u : SectionView) → IsOnTheWay c.section (take offset piece) u → Halts c piece offset d
interim_halts c d form before status piece offset part e f o stays r u k =
    let v = c.section in
    let s = open_by c (stages.Interim form before status) e o in
    let few : IsWithin v.limits.interims (before + 1) = subst (λ (L : Bounds). IsWithin L.interims (before + 1)) (sym o.course.section) s.0 in
    let m : Comes v.limits (in_interim form before status v) (take offset piece) [] (in_interim form before status u) =
    reader_goes_on (section_rest v.limits v) (section_rest no_bounds v) (section_rest v.limits u) (section_rest no_bounds u) (λ i. interim_response status i ∷ [])
    (λ K i. ResponseRest K form (before + 1)) v.limits (take offset piece) (section_reader v s.1.left) (both v u (take offset piece) k.leads) (refused_on v piece offset part s.1 r)
    (behind_interim v.limits form before (section_rest v.limits u) few) in
    halts_at c d piece offset (stages.Interim form before status) (in_interim form before status u) e f stays
    (subst (λ (L : Bounds). Comes L (in_interim form before status v) (take offset piece) [] (in_interim form before status u)) o.course.section m)
    (way_prompt c.limits v u piece offset part o.course.section s.1 r k) (λ shown. refl)

pub interim_refused : (c d : Course) (form : Form) (before status : ℕ) (piece : List ℕ) (offset : ℕ) (part : Part) → c.stage ≡ stages.Interim form before status → d.stage ≡ stages.Interim form before status
    → IsOpen c → SectionShows c.section piece (sections.Dead offset part) → IsBehind c.section piece (sections.Dead offset part) d.section → d.limits ≡ c.limits → d.control.limits ≡ c.control.limits
    → d.status ≡ c.status → Says c piece (stepped.Dead offset part) d
interim_refused c d form before status piece offset part e f o h b limits control stays =
    let v = c.section in
    let s = open_by c (stages.Interim form before status) e o in
    let few : IsWithin v.limits.interims (before + 1) = subst (λ (L : Bounds). IsWithin L.interims (before + 1)) (sym o.course.section) s.0 in
    dead_of c d piece offset part (stages.Interim form before status) e
    (dead_in c.limits v.limits (in_interim form before status v) piece offset part o.course.section
    (reader_dead (section_rest v.limits v) (section_rest no_bounds v) (λ i. interim_response status i ∷ []) (λ K i. ResponseRest K form (before + 1)) v.limits (section_reader v s.1.left)
    (behind_interim v.limits form before (section_rest v.limits v) few) piece offset part h))
    (stays_in c d (stages.Interim form before status) e f o limits control b.limits refl (inl tt))
    (interim_halts c d form before status piece offset part e f o stays h.refused b.stood.0 b.stood.1)

pub interim_limited : (c d : Course) (form : Form) (before status : ℕ) (piece : List ℕ) (offset : ℕ) (part : Part) → c.stage ≡ stages.Interim form before status → d.stage ≡ stages.Interim form before status
    → IsOpen c → SectionShows c.section piece (sections.Limit offset part) → IsBehind c.section piece (sections.Limit offset part) d.section → d.limits ≡ c.limits → d.control.limits ≡ c.control.limits
    → d.status ≡ c.status → Says c piece (stepped.Limit offset part) d
interim_limited c d form before status piece offset part e f o h b limits control stays =
    let v = c.section in
    let s = open_by c (stages.Interim form before status) e o in
    let few : IsWithin v.limits.interims (before + 1) = subst (λ (L : Bounds). IsWithin L.interims (before + 1)) (sym o.course.section) s.0 in
    limit_of c d piece offset part (stages.Interim form before status) e
    (limit_in c.limits v.limits (in_interim form before status v) piece offset part o.course.section
    (reader_limit (section_rest v.limits v) (section_rest no_bounds v) (λ i. interim_response status i ∷ []) (λ K i. ResponseRest K form (before + 1)) v.limits (section_reader v s.1.left)
    (behind_interim v.limits form before (section_rest v.limits v) few) (behind_interim no_bounds form before (section_rest no_bounds v) tt) piece offset part h))
    (stays_in c d (stages.Interim form before status) e f o limits control b.limits refl (inl tt))
    (interim_halts c d form before status piece offset part e f o stays h.refused b.stood.0 b.stood.1)
