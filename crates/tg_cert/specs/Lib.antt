pub mod Arguments
pub mod Lines
pub mod Certificates
pub mod Code
pub mod Laws
pub mod CertificateTexts
pub mod ReadBack
